use Rattle.std.proofs.Common.{◌≡◌, ℕ, List, map, Bor}
use Rattle.cfgsection.specs.SectionReads.{errors_view}
use Rattle.cfgsection.specs.Inner.Steps.{duplicate_at}
use Rattle.cfgsection.proofs.section.errors.errors_at.Given as goal

abbrev pub invariant-loop-key : goal.invariant-loop-key
invariant-loop-key l = errors_view l.errors.items ≡ map (λ (key : Bor (List ℕ)). duplicate_at l.offsets key.now) l.yielded
