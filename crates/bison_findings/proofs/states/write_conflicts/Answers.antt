use Rattle.std.proofs.Common.{Contains, subst, sym}
use Rattle.bison_findings.proofs.states.write_conflicts.Goals as goal

pub write_conflict-requires : goal.write_conflict-requires
write_conflict-requires c =
    let conflict = c.conflict-item.result in
    c.requires.conflicts conflict
    (subst (λ l. Contains l conflict) c.as_slice-conflict-items.ensures (c.loop-conflict.conflict-index, c.loop-conflict-test.true, sym c.conflict-item.is))
