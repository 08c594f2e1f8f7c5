use Rattle.std.proofs.Common.{◌≡◌, ◌<◌, ℕ}
use Rattle.text_findings.specs.References.{IsBeyond, place_at}
use Rattle.text_findings.proofs.references.first_beyond.Given as goal

-- where the code so far ends, and that no reference in it is beyond the limit
abbrev pub invariant-loop-offset : goal.invariant-loop-offset
invariant-loop-offset l = record {
  place : l.place ≡ place_at l.code l.offset;
  none : (offset : ℕ) → offset < l.offset → IsBeyond l.code l.limit offset → ⊥;
}
