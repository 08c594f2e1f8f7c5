use Rattle.std.proofs.Common.{take}
use Rattle.search.specs.Reachable.{FoundBy, Reaches}
use Rattle.cfgast.specs.Inner.Nodes.{IsNodeOf}
use Rattle.cfgast.specs.Unused.{name_of}
use Rattle.cfgitems.specs.SyntaxView.{symbol_view}
use Rattle.cfgast.specs.TreeView.{syntax}
use Rattle.cfgast.proofs.ast.GrammarAST.reach_symbols.Given as goal

abbrev pub invariant-loop-symbol : goal.invariant-loop-symbol
invariant-loop-symbol l = Reaches (FoundBy (λ symbol. IsNodeOf (syntax l.self) (name_of (symbol_view symbol))) (take l.symbol-index l.symbols)) l.fn.search l.search
