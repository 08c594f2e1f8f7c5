use Rattle.std.proofs.Common.{take}
use Rattle.search.specs.Reachable.{FoundBy, Reaches}
use Rattle.cfgast.specs.Inner.Nodes.{RefersAt}
use Rattle.cfgast.specs.TreeView.{syntax}
use Rattle.cfgast.proofs.ast.GrammarAST.reach_referred.Given as goal

abbrev pub invariant-loop-index : goal.invariant-loop-index
invariant-loop-index l = Reaches (FoundBy (RefersAt (syntax l.self)) (take l.index-index l.productions)) l.fn.search l.search
