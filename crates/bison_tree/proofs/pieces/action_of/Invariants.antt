use Rattle.std.proofs.Common.{◌≡◌, fold, drop}
use Rattle.bison_tree.specs.Productions.{action_of, with_kind}
use Rattle.bison_tree.proofs.pieces.action_of.Given as goal

abbrev pub invariant-loop-part : goal.invariant-loop-part
invariant-loop-part l =
    fold (λ action part. with_kind action part.kind part.word) l.action (drop l.part-index l.parts) ≡ action_of l.parts
