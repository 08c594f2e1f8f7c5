use Rattle.std.proofs.Common.{take}
use Rattle.cfgast.specs.Unused.{Warned, possible_warnings}
use Rattle.cfgast.specs.TreeView.{syntax}
use Rattle.cfgast.proofs.ast.GrammarAST.warnings.Given as goal

abbrev pub invariant-loop-node : goal.invariant-loop-node
invariant-loop-node l = Warned (syntax l.self) (take l.node (possible_warnings (syntax l.self))) l.warnings.items
