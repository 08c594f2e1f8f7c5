-- A finding as plain data, as callers see a `Finding`.
use Rattle.std.specs.Prelude.{ℕ, List, Option, slice_get}
use Rattle.std.specs.Option.{option_map_or}
use Rattle.cfgrammar.specs.Span.{Span}
use Rattle.cfgrammar.specs.SpansKind.{SpansKind}
use Rattle.cfgrammar.specs.SpansKind.TheVariants.{DuplicationError, Error}
use Rattle.finding_kinds.specs.declared.finding_kind.FindingKind.{FindingKind}
use Rattle.finding_kinds.specs.declared.finding_kind.FindingKind.TheVariants.{CyclicRule, NoSentence, ReduceReduce, RepeatedProduction, ShadowedRule, ShiftReduce, StartWithoutSentence}

-- the kind of finding, its spans, its text, and the note on it, if there is one
pub record ShownFinding : Type 0 where
  pub kind : FindingKind
  pub spans : List Span
  pub text : List ℕ
  pub hint : Option (List ℕ)

-- which spans are shown: all (`DuplicationError`) for the kinds whose findings may be about several places, else the first (`Error`)
abbrev pub spanskind_of : FindingKind → SpansKind
spanskind_of ShadowedRule = DuplicationError
spanskind_of StartWithoutSentence = DuplicationError
spanskind_of NoSentence = DuplicationError
spanskind_of CyclicRule = DuplicationError
spanskind_of RepeatedProduction = DuplicationError
spanskind_of ShiftReduce = DuplicationError
spanskind_of ReduceReduce = DuplicationError
spanskind_of _ = Error

-- the offset of a finding, in bytes: the start of its first span
abbrev pub offset_of : ShownFinding → ℕ
offset_of finding = option_map_or (λ (span : Span). span.start) (slice_get finding.spans 0) 0
