-- What texts are read as, and the words that name it.
use Rattle.std.specs.Prelude.{ℕ, ◌||◌, List, Option, Some, None, if◌then◌else◌, codes}
use Rattle.std.specs.Str.{bytes_eq}
use Rattle.cfgprogram.specs.Kinds.{kind_name, kind_named}
use Rattle.cfgprogram.specs.declared.kinds.KindArg.{KindArg}
use Rattle.cfgprogram.specs.declared.kinds.KindArg.TheVariants as argument
use Rattle.cfglint_shell.specs.declared.file_kind.FileKind.{FileKind}
use Rattle.cfglint_shell.specs.declared.file_kind.FileKind.TheVariants.{Yacc, Bison}
use Rattle.cfglint_shell.specs.declared.file_kind.KindRequest.{KindRequest}
use Rattle.cfglint_shell.specs.declared.file_kind.KindRequest.TheVariants.{Named, Section}

-- the word that names it
abbrev pub file_kind_name : FileKind → List ℕ
file_kind_name (Yacc kind) = kind_name kind
file_kind_name Bison = codes "bison"

-- what a word requests: `yacc` is `bison`, and the others are those of the library's kinds
abbrev pub of_kind_argument : Option KindArg → Option KindRequest
of_kind_argument (Some (argument.Named kind)) = Some (Named (Yacc kind))
of_kind_argument (Some argument.Section) = Some Section
of_kind_argument None = None

abbrev pub kind_requested : List ℕ → Option KindRequest
kind_requested word = if bytes_eq word (codes "bison") || bytes_eq word (codes "yacc")
    then Some (Named Bison)
    else of_kind_argument (kind_named word)

-- the kind that a request names: `section` names none
abbrev pub named_kind : Option KindRequest → Option FileKind
named_kind (Some (Named kind)) = Some kind
named_kind (Some Section) = None
named_kind None = None
