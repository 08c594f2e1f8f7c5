-- What the program's arguments request, and what it then says about itself.
use Rattle.std.specs.Prelude.{ℕ, Bool, true, false, not, ◌&&◌, ◌||◌, ◌==◌, nat_lt, List, [], ◌∷◌, ◌++◌, length, map, Option, Some, None, codes, if◌then◌else◌}
use Rattle.std.specs.List.{after_first, before_first, count_by, flat_map, position_or_len}
use Rattle.std.specs.Option.{option_map_or}
use Rattle.std.specs.Str.{bytes_eq}
use Rattle.cfgrammar.specs.ColumnUnit.TheVariants.{Characters}
use Rattle.cfgrammar.specs.Visible.{visible}
use Rattle.cfgnear.specs.Nearest.{nearest}
use Rattle.cfglint_shell.specs.declared.arguments.Expected.{Expected}
use Rattle.cfglint_shell.specs.declared.arguments.Expected.TheVariants.{Argument, Value, File}
use Rattle.finding_kinds.specs.declared.levels.Level.{Level}
use Rattle.finding_kinds.specs.declared.levels.Level.TheVariants as level
use Rattle.cfglint_shell.specs.declared.linter.LintOptions.{LintOptions}
use Rattle.cfglint_shell.specs.declared.usage.ValueOption.{ValueOption}
use Rattle.cfglint_shell.specs.declared.usage.ValueOption.TheVariants.{Kind, DefaultKind, Format, Columns, Color, Allow, Warn, Deny, StdinName}
use Rattle.cfglint_shell.specs.declared.format.Format.TheVariants.{Text}
use Rattle.cfglint_shell.specs.FileKinds.{kind_requested, named_kind}
use Rattle.cfglint_shell.specs.Formats.{color_choice_named, colors_by, format_named, is_text, unit_named}
use Rattle.finding_kinds.specs.FindingKinds.{all_levels, default_levels, finding_named, kinds, with_level, word_of}

-- that these files are linted, in order; the name under which standard input is reported; whether warnings are denied, and whether the
-- summary is left out
pub record Options : Type 0 where
  pub lint : LintOptions
  pub stdin_name : List ℕ
  pub denies : Bool
  pub is_quiet : Bool
  pub files : List (List ℕ)

-- before the first argument
abbrev pub no_options : Options
no_options = record {
  lint = record { kind = None; default_kind = None; levels = default_levels; format = Text; columns = Characters; colors = false; shows_states = false };
  stdin_name = codes "-";
  denies = false;
  is_quiet = false;
  files = [];
}

-- the name under which a file is reported
abbrev pub name_of : Options → List ℕ → List ℕ
name_of options file = if bytes_eq file (codes "-") then options.stdin_name else file

-- whether the summary is written: only for people
abbrev pub has_summary : Options → Bool
has_summary options = is_text options.lint.format && not options.is_quiet

-- what is wrong with arguments: there is no such option; this value of an option names no kind, none that can be the default, no format, no unit,
-- no time for colours or no kind of finding; an option's value is missing; no file is given; more than one of the files is standard input
pub data UsageError : Type 0 where
  UnknownOption : List ℕ → UsageError
  UnknownKind : List ℕ → UsageError
  UnknownDefaultKind : List ℕ → UsageError
  UnknownFormat : List ℕ → UsageError
  UnknownUnit : List ℕ → UsageError
  UnknownColor : List ℕ → UsageError
  UnknownFinding : List ℕ → UsageError
  MissingValue : ValueOption → UsageError
  NoFile : UsageError
  StandardInputTwice : UsageError

pub data Requested : Type 0 where
  Help : Requested
  Version : Requested
  Wrong : UsageError → Requested
  Lint : Options → Requested

-- what an argument does: it is part of the options, and this is expected of the next one; or it decides what is requested
pub data Step : Type 0 where
  Goes : Expected → Options → Step
  Stops : Requested → Step

-- the options that have a value
abbrev pub option_named : List ℕ → Option ValueOption
option_named name =
    if bytes_eq name (codes "--kind") then Some Kind
    else if bytes_eq name (codes "--default-kind") then Some DefaultKind
    else if bytes_eq name (codes "--format") then Some Format
    else if bytes_eq name (codes "--columns") then Some Columns
    else if bytes_eq name (codes "--color") then Some Color
    else if bytes_eq name (codes "--allow") then Some Allow
    else if bytes_eq name (codes "--warn") then Some Warn
    else if bytes_eq name (codes "--deny") then Some Deny
    else if bytes_eq name (codes "--stdin-name") then Some StdinName
    else None

abbrev pub option_name : ValueOption → List ℕ
option_name Kind = codes "--kind"
option_name DefaultKind = codes "--default-kind"
option_name Format = codes "--format"
option_name Columns = codes "--columns"
option_name Color = codes "--color"
option_name Allow = codes "--allow"
option_name Warn = codes "--warn"
option_name Deny = codes "--deny"
option_name StdinName = codes "--stdin-name"

-- the part of an argument before its first `=`, or all of it
abbrev pub option_part : List ℕ → List ℕ
option_part argument = before_first (λ byte. byte == 61) argument

module _ (options : Options) where
  -- findings of the kind that this value names get the level, or all findings
  abbrev pub with_finding : Level → List ℕ → Step
  with_finding level value = if bytes_eq value (codes "all")
      then Goes Argument (record options { lint = record options.lint { levels = all_levels level } })
      else option_map_or
      (λ finding. Goes Argument (record options { lint = record options.lint { levels = with_level options.lint.levels finding level } }))
      (finding_named value) (Stops (Wrong (UnknownFinding value)))

  -- the value of an option
  abbrev pub with_value : ValueOption → List ℕ → Step
  with_value Kind value = option_map_or
      (λ kind. Goes Argument (record options { lint = record options.lint { kind = Some kind } }))
      (kind_requested value) (Stops (Wrong (UnknownKind value)))
  with_value DefaultKind value = option_map_or
      (λ kind. Goes Argument (record options { lint = record options.lint { default_kind = Some kind } }))
      (named_kind (kind_requested value)) (Stops (Wrong (UnknownDefaultKind value)))
  with_value Format value = option_map_or
      (λ format. Goes Argument (record options { lint = record options.lint { format = format } }))
      (format_named value) (Stops (Wrong (UnknownFormat value)))
  with_value Columns value = option_map_or
      (λ unit. Goes Argument (record options { lint = record options.lint { columns = unit } }))
      (unit_named value) (Stops (Wrong (UnknownUnit value)))
  with_value Color value = option_map_or
      (λ choice. Goes Argument (record options { lint = record options.lint { colors = colors_by choice options.lint.colors } }))
      (color_choice_named value) (Stops (Wrong (UnknownColor value)))
  with_value Allow value = with_finding level.Allow value
  with_value Warn value = with_finding level.Warn value
  with_value Deny value = with_finding level.Deny value
  with_value StdinName value = Goes Argument (record options { stdin_name = value })

  -- an option with a value, which follows an `=` or is the next argument
  unfoldable pub with_option : List ℕ → Step
  with_option argument = option_map_or
      (λ option. if nat_lt (position_or_len (λ byte. byte == 61) argument) (length argument)
      then with_value option (after_first (λ byte. byte == 61) argument)
      else Goes (Value option) options)
      (option_named (option_part argument)) (Stops (Wrong (UnknownOption argument)))

  -- a file
  abbrev pub with_file_argument : List ℕ → Options
  with_file_argument argument = record options { files = options.files ++ argument ∷ [] }

-- an argument that begins with a dash is an option, except for a single dash, which is standard input
abbrev pub is_option : List ℕ → Bool
is_option [] = false
is_option (first ∷ more) = first == 45 && not (bytes_eq (first ∷ more) (codes "-"))

-- an option or a file
unfoldable pub with_argument : Options → List ℕ → Step
with_argument options argument =
    if bytes_eq argument (codes "-h") || bytes_eq argument (codes "--help") then Stops Help
    else if bytes_eq argument (codes "--version") then Stops Version
    else if bytes_eq argument (codes "--") then Goes File options
    else if bytes_eq argument (codes "--deny-warnings") then Goes Argument (record options { denies = true })
    else if bytes_eq argument (codes "--quiet") then Goes Argument (record options { is_quiet = true })
    else if bytes_eq argument (codes "--states") then Goes Argument (record options { lint = record options.lint { shows_states = true } })
    else if is_option argument then with_option options argument
    else Goes Argument (with_file_argument options argument)

-- an argument of which this is expected
abbrev pub with_expected : Options → Expected → List ℕ → Step
with_expected options (Value option) argument = with_value options option argument
with_expected options Argument argument = with_argument options argument
with_expected options File argument = Goes File (with_file_argument options argument)

-- how many of the files are standard input
abbrev pub standard_inputs : Options → ℕ
standard_inputs options = count_by (λ file. bytes_eq file (codes "-")) options.files

-- at the end of the arguments: no value may be missing, and at least one file is required; standard input may be given once
abbrev pub requested_files : Options → List (List ℕ) → Requested
requested_files options [] = Wrong NoFile
requested_files options (file ∷ files) = if nat_lt 1 (standard_inputs options) then Wrong StandardInputTwice else Lint options

abbrev pub at_end : Options → Expected → Requested
at_end options (Value option) = Wrong (MissingValue option)
at_end options Argument = requested_files options options.files
at_end options File = requested_files options options.files

-- what is requested after an argument that does this, where the others request this after it
abbrev pub on_step : (Expected → Options → Requested) → Step → Requested
on_step requests (Goes next options) = requests next options
on_step requests (Stops requested) = requested

-- What these arguments request after those that gave these options, where this is expected of the first one. The first argument that
-- requests something else, or is wrong, decides.
unfoldable pub arguments_request : Expected → Options → List (List ℕ) → Requested
arguments_request expected options [] = at_end options expected
arguments_request expected options (argument ∷ arguments) =
    on_step (λ next options. arguments_request next options arguments) (with_expected options expected argument)

abbrev pub requested : List (List ℕ) → Requested
requested arguments = arguments_request Argument no_options arguments

-- the files that the arguments name
abbrev pub files_requested : Requested → List (List ℕ)
files_requested Help = []
files_requested Version = []
files_requested (Wrong error) = []
files_requested (Lint options) = options.files

abbrev pub usage : List ℕ
usage = codes "usage: cfglint [OPTION..] [--] FILE..\n"

-- the words that name options, kinds, default kinds, formats, units, when there are colours, and findings
abbrev pub option_names : List (List ℕ)
option_names = codes "--kind" ∷ codes "--default-kind" ∷ codes "--format" ∷ codes "--columns" ∷ codes "--color" ∷ codes "--allow" ∷ codes "--warn" ∷ codes "--deny"
    ∷ codes "--deny-warnings" ∷ codes "--states" ∷ codes "--quiet" ∷ codes "--stdin-name" ∷ codes "--help" ∷ codes "--version" ∷ []

abbrev pub default_kind_names : List (List ℕ)
default_kind_names = codes "original-noaction" ∷ codes "original-useraction" ∷ codes "original-genericparsetree" ∷ codes "grmtools"
    ∷ codes "eco" ∷ codes "bison" ∷ codes "yacc" ∷ []

abbrev pub kind_names : List (List ℕ)
kind_names = default_kind_names ++ codes "section" ∷ []

abbrev pub format_names : List (List ℕ)
format_names = codes "text" ∷ codes "json" ∷ codes "github" ∷ codes "sarif" ∷ []

abbrev pub unit_names : List (List ℕ)
unit_names = codes "bytes" ∷ codes "characters" ∷ codes "display" ∷ []

abbrev pub color_choice_names : List (List ℕ)
color_choice_names = codes "auto" ∷ codes "always" ∷ codes "never" ∷ []

abbrev pub finding_names : List (List ℕ)
finding_names = map word_of kinds ++ codes "all" ∷ []

-- names with commas between them
abbrev pub listed_names : List (List ℕ) → List ℕ
listed_names [] = []
listed_names (first ∷ rest) = first ++ flat_map (λ name. codes ", " ++ name) rest

-- the question whether the nearest name is meant, or all names if none is near
abbrev pub choice : List ℕ → List (List ℕ) → Option (List ℕ) → List ℕ
choice what names (Some near) = codes "did you mean '" ++ (near ++ codes "'?")
choice what names None = codes "the " ++ (what ++ (codes "s are " ++ listed_names names))

-- the line on a word that is none of these names, where the nearest to `name` may be meant
abbrev pub unknown_text : List ℕ → List ℕ → List ℕ → List (List ℕ) → List ℕ
unknown_text what word name names = codes "cfglint: unknown " ++ (what ++ (codes " '" ++ (visible word ++ (codes "': "
    ++ (choice what names (nearest name names) ++ codes "\n")))))

-- the line that says what is wrong
abbrev pub usage_error_text : UsageError → List ℕ
usage_error_text (UnknownOption option) = unknown_text (codes "option") option (option_part option) option_names
usage_error_text (UnknownKind kind) = unknown_text (codes "kind") kind kind kind_names
usage_error_text (UnknownDefaultKind kind) = unknown_text (codes "default kind") kind kind default_kind_names
usage_error_text (UnknownFormat format) = unknown_text (codes "format") format format format_names
usage_error_text (UnknownUnit unit) = unknown_text (codes "unit") unit unit unit_names
usage_error_text (UnknownColor color) = unknown_text (codes "color choice") color color color_choice_names
usage_error_text (UnknownFinding finding) = unknown_text (codes "finding") finding finding finding_names
usage_error_text (MissingValue option) = codes "cfglint: option '" ++ (option_name option ++ codes "' needs a value\n")
usage_error_text NoFile = codes "cfglint: no file is given\n"
usage_error_text StandardInputTwice = codes "cfglint: standard input is given twice\n"

abbrev pub version : List ℕ
version = codes "cfglint 0.15.0\n"

abbrev pub help : List ℕ
help = codes "cfglint reports errors in Yacc grammar files, and warnings about their grammars.\n\nusage: cfglint [OPTION..] [--] FILE..\n\n  --kind KIND        bison or yacc, the same: as Bison reads files; original-noaction, original-useraction,\n                     original-genericparsetree, grmtools, eco; or section (the kind that the file's section names).\n                     Without it the section names the kind; a file that names none is read as the default kind.\n  --default-kind KIND\n                     The default kind, any but section. Without it a file that names no kind is read as\n                     original-noaction; if it then has errors, and something that only Bison's files have, such as %{\n                     or %union, it is read as bison.\n  --format FORMAT    text, the default; json: a line with a JSON object for each error and warning; github: a line\n                     with a workflow command for each, which GitHub shows at its place; or sarif: a log in SARIF 2.1.0.\n                     Only text has a summary.\n  --columns UNIT     What a column of text counts from 1: bytes, characters, the default, or display: columns of a\n                     terminal, of which wide characters take two, and tabs those up to the next multiple of 8.\n  --color WHEN       Colours severities in text: always, never, or auto, the default: if standard output is a terminal,\n                     and the variable NO_COLOR is unset or empty.\n  --states           Writes the states of the parser after the findings, for reading a conflict by hand. Only text has\n                     them.\n  --allow FINDING    Findings of this kind aren't reported.\n  --warn FINDING     Findings of this kind are warnings.\n  --deny FINDING     Findings of this kind are errors.\n  --deny-warnings    Warnings end with status 1 too.\n  --quiet            Writes no summary.\n  --stdin-name NAME  Standard input is reported under this name.\n  -h, --help         Writes this.\n  --version          Writes the version.\n  --                 What follows are files.\n  FILE               A path, or - for standard input, which can be given once.\n\nFINDING is all, for each kind, or one of these. Without these options those that say so are errors or aren't reported,\nand the others are warnings. If a finding is given to several of these options, the last one wins.\n\n  unused-rule             a rule that can't be reached from the start rule\n  unused-token            a token that can't be reached from it, and that no %prec names\n  shadowed-rule           a rule that is never used, since its name is that of a token\n  start-without-sentence  a start rule from which no sentence can be derived: an error\n  no-sentence             another rule from which no sentence can be derived\n  unusable-rule           a rule without a sentence since others have none: not reported\n  unusable-production     a production with a rule that has no sentence: not reported\n  useless-symbol          a rule or token that only unusable productions reach: not reported\n  cyclic-rule             a rule that derives itself\n  repeated-production     a production with the symbols of an earlier one of its rule\n  unused-precedence       a precedence of a token that no production needs\n  repeated-token          a token that a %token list has a second time\n  overridden-precedence   a %prec that a later one of its production overrides\n  glued-keyword           a name that directly follows a keyword, as in %tokens X\n  needless-expect-unused  a symbol of an %expect-unused that is used\n  escaped-token           a token whose name begins with a backslash: not reported\n  implicit-empty          an empty production without %empty: not reported\n  shift-reduce            a production that may be reduced where the next token may also be shifted\n  reduce-reduce           a production that may be reduced where an earlier one may be too\n  unmet-expect            an %expect or %expect-rr with another number of conflicts than there are: an error\n  undefined-precedence    a production whose %prec names a token without a precedence\n  missing-empty           an empty production without %empty, which others have\n  swallowed-rule          a rule whose type goes on to the type of the next one\n  unknown-key             a key of a section that nothing looks for\n  unknown-reference       an action's $6 or @6 where fewer symbols come before it: an error\n  unread-value            an action inside of a production that sets $$, which no later action reads\n  misspelled-define       a %define whose variable or value is near to one that Bison knows\n  repeated-alias          an alias of a %token list that a token has already\n  stray-comma             a comma between words of a Bison file, where it is a blank\n\n--kind=KIND is --kind KIND, and so on.\n\nstatus: 0 without errors or denied warnings; 1 with either; 2 if the arguments are wrong, a file can't be read or\nthe output can't be written; 3 if there is no memory left\n"
