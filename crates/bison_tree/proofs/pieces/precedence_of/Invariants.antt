use Rattle.std.proofs.Common.{◌≡◌, drop}
use Rattle.bison_tree.specs.Productions.{precedence_of}
use Rattle.bison_tree.proofs.pieces.precedence_of.Given as goal

abbrev pub invariant-loop-part : goal.invariant-loop-part
invariant-loop-part l =
    precedence_of l.parts ≡ precedence_of (drop l.part-index l.parts)
