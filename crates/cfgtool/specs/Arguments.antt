-- What the arguments of the program name.
use Rattle.std.specs.Prelude.{ℕ, List, Option, Some, None, if◌then◌else◌, codes, Bool, not, ◌&&◌}
use Rattle.std.specs.Str.{bytes_eq}
use Rattle.cfgtool.specs.declared.arguments.Command.{Command}
use Rattle.cfgtool.specs.declared.arguments.Command.TheVariants.{Grammar, Firsts, Follows, Sentences, Warnings}

-- the command that an argument names
unfoldable pub command_named : List ℕ → Option Command
command_named argument =
    if bytes_eq argument (codes "grammar") then Some Grammar
    else if bytes_eq argument (codes "firsts") then Some Firsts
    else if bytes_eq argument (codes "follows") then Some Follows
    else if bytes_eq argument (codes "sentences") then Some Sentences
    else if bytes_eq argument (codes "warnings") then Some Warnings
    else None

-- whether two files are requested correctly: by the command `lex`, and with at most one of them standard input
abbrev pub asks_lexer : List ℕ → List ℕ → List ℕ → Bool
asks_lexer command file names = bytes_eq command (codes "lex") && not (bytes_eq file (codes "-") && bytes_eq names (codes "-"))
