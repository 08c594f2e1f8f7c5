-- The words that name formats, units of columns, and when there are colours.
use Rattle.std.specs.Prelude.{ℕ, Bool, true, false, List, Option, Some, None, if◌then◌else◌, codes}
use Rattle.std.specs.Str.{bytes_eq}
use Rattle.cfgrammar.specs.ColumnUnit.{ColumnUnit}
use Rattle.cfgrammar.specs.ColumnUnit.TheVariants.{Bytes, Characters, Display}
use Rattle.cfglint_shell.specs.declared.color_choice.ColorChoice.{ColorChoice}
use Rattle.cfglint_shell.specs.declared.color_choice.ColorChoice.TheVariants.{Auto, Always, Never}
use Rattle.cfglint_shell.specs.declared.format.Format.{Format}
use Rattle.cfglint_shell.specs.declared.format.Format.TheVariants.{Text, Json, Github, Sarif}

-- the format that a word names
abbrev pub format_named : List ℕ → Option Format
format_named word =
    if bytes_eq word (codes "text") then Some Text
    else if bytes_eq word (codes "json") then Some Json
    else if bytes_eq word (codes "github") then Some Github
    else if bytes_eq word (codes "sarif") then Some Sarif
    else None

-- the unit of columns that a word names
abbrev pub unit_named : List ℕ → Option ColumnUnit
unit_named word =
    if bytes_eq word (codes "bytes") then Some Bytes
    else if bytes_eq word (codes "characters") then Some Characters
    else if bytes_eq word (codes "display") then Some Display
    else None

-- when there are colours, as a word says
abbrev pub color_choice_named : List ℕ → Option ColorChoice
color_choice_named word =
    if bytes_eq word (codes "auto") then Some Auto
    else if bytes_eq word (codes "always") then Some Always
    else if bytes_eq word (codes "never") then Some Never
    else None

-- whether there are colours with this choice, if there were any before it or not
abbrev pub colors_by : ColorChoice → Bool → Bool
colors_by Auto before = before
colors_by Always before = true
colors_by Never before = false

-- whether people read it
abbrev pub is_text : Format → Bool
is_text Text = true
is_text Json = false
is_text Github = false
is_text Sarif = false
