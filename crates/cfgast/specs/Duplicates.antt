-- What is declared more than once, though it may be declared only once.
use Rattle.std.specs.Prelude.{Bool, ◌&&◌, List, map, filter}
use Rattle.std.specs.Option.{option_eq}
use Rattle.std.specs.Str.{bytes_eq}
use Rattle.lemmas.specs.Lists.{repeated}
use Rattle.cfgbase.specs.declared.span.Span.{Span}
use Rattle.cfgitems.specs.contracts.occurrence.UniqueKindPartialEq.TheImpl.{ghosts as kinds}
use Rattle.cfgitems.specs.Occurrences.{Unique, Occurrence}

-- what is declared more than once, and all its spans: the first, and then those of its repeats
pub record Duplicate : Type 0 where
  pub what : Unique
  pub spans : List Span

abbrev pub is_same : Unique → Unique → Bool
is_same a b = kinds.eq a.kind b.kind && option_eq bytes_eq a.token b.token

-- what each occurrence declares
abbrev pub declared_by : List Occurrence → List Unique
declared_by occurrences = map (λ o. o.what) occurrences

-- the spans of what is declared
abbrev pub spans_of : List Occurrence → Unique → List Span
spans_of occurrences what = map (λ o. o.span) (filter (λ o. is_same o.what what) occurrences)

-- what is declared more than once, in the order of the first repeats
unfoldable pub duplicates : List Occurrence → List Duplicate
duplicates occurrences = map (λ what. record { what = what; spans = spans_of occurrences what }) (repeated is_same (declared_by occurrences))
