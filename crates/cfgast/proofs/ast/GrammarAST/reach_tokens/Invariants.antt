use Rattle.std.proofs.Common.{take}
use Rattle.search.specs.Reachable.{FoundBy, Reaches}
use Rattle.cfgast.specs.Inner.Nodes.{IsNodeOf}
use Rattle.cfgast.specs.Unused.{entry_token}
use Rattle.cfgitems.specs.SyntaxView.{span_entry}
use Rattle.cfgast.specs.TreeView.{syntax}
use Rattle.cfgast.proofs.ast.GrammarAST.reach_tokens.Given as goal

abbrev pub invariant-loop-index : goal.invariant-loop-index
invariant-loop-index l = Reaches (FoundBy (λ entry. IsNodeOf (syntax l.self) (entry_token (span_entry entry))) (take l.index l.table.entries)) l.fn.search l.search
