-- How many files were read as each kind.
use Rattle.std.specs.Prelude.{ℕ, ◌+◌, List, [], ◌∷◌, Option, Some, None}
use Rattle.cfgprogram.specs.YaccKind.TheVariants.{Original, Grmtools, Eco}
use Rattle.cfgprogram.specs.YaccOriginalActionKind.TheVariants.{NoAction, UserAction, GenericParseTree}
use Rattle.cfglint_shell.specs.declared.file_kind.FileKind.{FileKind}
use Rattle.cfglint_shell.specs.declared.file_kind.FileKind.TheVariants.{Yacc, Bison}
use Rattle.cfglint_shell.specs.declared.kind_counts.KindCounts.{KindCounts}

-- before the first file
abbrev pub no_kinds : KindCounts
no_kinds = record { original_noaction = 0; original_useraction = 0; original_genericparsetree = 0; grmtools = 0; eco = 0; bison = 0 }

-- how many files were read as a kind, and how many as any
abbrev pub count_of : KindCounts → FileKind → ℕ
count_of counts (Yacc (Original NoAction)) = counts.original_noaction
count_of counts (Yacc (Original UserAction)) = counts.original_useraction
count_of counts (Yacc (Original GenericParseTree)) = counts.original_genericparsetree
count_of counts (Yacc Grmtools) = counts.grmtools
count_of counts (Yacc Eco) = counts.eco
count_of counts Bison = counts.bison

abbrev pub all_counted : KindCounts → ℕ
all_counted counts = counts.original_noaction + counts.original_useraction + counts.original_genericparsetree + counts.grmtools + counts.eco
    + counts.bison

-- with one more file, which was read as this kind, if as one
abbrev pub with_kind : KindCounts → Option FileKind → KindCounts
with_kind counts (Some (Yacc (Original NoAction))) = record counts { original_noaction = counts.original_noaction + 1 }
with_kind counts (Some (Yacc (Original UserAction))) = record counts { original_useraction = counts.original_useraction + 1 }
with_kind counts (Some (Yacc (Original GenericParseTree))) = record counts { original_genericparsetree = counts.original_genericparsetree + 1 }
with_kind counts (Some (Yacc Grmtools)) = record counts { grmtools = counts.grmtools + 1 }
with_kind counts (Some (Yacc Eco)) = record counts { eco = counts.eco + 1 }
with_kind counts (Some Bison) = record counts { bison = counts.bison + 1 }
with_kind counts None = counts

-- all kinds, in the order of the summary
abbrev pub kinds : List FileKind
kinds = Yacc (Original NoAction) ∷ Yacc (Original UserAction) ∷ Yacc (Original GenericParseTree) ∷ Yacc Grmtools ∷ Yacc Eco ∷ Bison ∷ []
