use Rattle.std.proofs.Common.{◌≡◌, map, not, take}
use Rattle.cfgast.proofs.ast.GrammarAST.unused.Given as goal

abbrev pub invariant-loop-node : goal.invariant-loop-node
invariant-loop-node l = l.unused.items ≡ map not (take l.node l.known-inside.reachable)
