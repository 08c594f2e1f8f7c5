use Rattle.std.proofs.Common.{◌≡◌, None, map, replicate}
use Rattle.cfgleast.specs.Certificate.{choice_of}
use Rattle.cfgleast.proofs.settle.no_choices.Given as goal

abbrev pub invariant-loop-rule : goal.invariant-loop-rule
invariant-loop-rule g l = map (choice_of g.S.Storage.number) l.choices.items ≡ replicate l._rule None
