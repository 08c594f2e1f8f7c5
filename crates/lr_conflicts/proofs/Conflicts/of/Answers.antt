use Rattle.lr_conflicts.proofs.Conflicts.of.Goals as goal

pub returns-clause-conflicts : goal.returns-clause-conflicts
returns-clause-conflicts c = c.in_ok-conflicts.ensures
