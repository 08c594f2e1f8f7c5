-- The kinds of Yacc that arguments name.
use Rattle.std.specs.Prelude.{ℕ, List, Option, Some, None, if◌then◌else◌, codes}
use Rattle.std.specs.Str.{bytes_eq}
use Rattle.cfgrammar.specs.YaccKind.{YaccKind}
use Rattle.cfgrammar.specs.YaccKind.TheVariants.{Original, Grmtools, Eco}
use Rattle.cfgrammar.specs.YaccOriginalActionKind.TheVariants.{NoAction, UserAction, GenericParseTree}
use Rattle.cfgprogram.specs.declared.kinds.KindArg.{KindArg}
use Rattle.cfgprogram.specs.declared.kinds.KindArg.TheVariants.{Named, Section}

-- the kind that an argument names
abbrev pub kind_named : List ℕ → Option KindArg
kind_named argument =
    if bytes_eq argument (codes "original-noaction") then Some (Named (Original NoAction))
    else if bytes_eq argument (codes "original-useraction") then Some (Named (Original UserAction))
    else if bytes_eq argument (codes "original-genericparsetree") then Some (Named (Original GenericParseTree))
    else if bytes_eq argument (codes "grmtools") then Some (Named Grmtools)
    else if bytes_eq argument (codes "eco") then Some (Named Eco)
    else if bytes_eq argument (codes "section") then Some Section
    else None

-- the argument that names a kind
abbrev pub kind_name : YaccKind → List ℕ
kind_name (Original NoAction) = codes "original-noaction"
kind_name (Original UserAction) = codes "original-useraction"
kind_name (Original GenericParseTree) = codes "original-genericparsetree"
kind_name Grmtools = codes "grmtools"
kind_name Eco = codes "eco"
