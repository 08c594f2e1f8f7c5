use Rattle.std.proofs.Common.{ap, drop, ◌∙◌}
use Rattle.lr_conflicts.proofs.Showing.{tail_of}
use Rattle.lr_conflicts.proofs.examples.ways.Ways.unread.Goals as goal

pub returns : goal.returns
returns c = tail_of c.args.item.read c.symbols_of.result.now ∙ ap (drop c.args.item.read) c.symbols_of.ensures.symbols
