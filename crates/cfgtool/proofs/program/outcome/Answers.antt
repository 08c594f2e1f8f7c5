use Rattle.std.proofs.Common.{Bor, List, [], ℕ, refl, rules}
use Rattle.cfgtool.specs.Endings.{Usage}
use Rattle.cfgtool.proofs.Handled.{unrequested}
use Rattle.cfgtool.proofs.program.outcome.Goals as goal
use Rattle.cfgtool.proofs.program.outcome.Goals.{in_default-via-then-args-lt3, in_default-via-else-args-lt3+else-args-lt4+else-args-lt5}

pub returns-in_default-clause-ends : goal.returns-in_default-clause-ends
returns-in_default-clause-ends g c =
    let old = g.O.Sink.written c.args.out.now in
    let none : Bor (List ℕ) = record { ref_ptr = (0, 0); now = [] } in
    unrequested c.args.args.now none g.S.Source.fetches c.args.source.now c.args.source.now old old Usage refl refl refl
    (λ least below. elim c.in_default.branch [ in_default-via-then-args-lt3 w ↦ search rules | in_default-via-else-args-lt3+else-args-lt4+else-args-lt5 w ↦ search rules ])
