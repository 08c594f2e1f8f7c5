use Rattle.std.proofs.Common.{Some, ap}
use Rattle.cfgitems.specs.Syntax.{Syntax}
use Rattle.cfgitems.specs.SyntaxView.{syntax_view, named_view}
use Rattle.cfgast.specs.TreeView.{syntax}
use Rattle.cfgast.proofs.writing.clone_with_start.Goals as goal

pub returns : goal.returns
unfolding syntax syntax_view
returns c = ap {A = Syntax} (λ s. record s { start = Some (named_view c.args.start) }) c.in_ok-copy.ensures.cases
