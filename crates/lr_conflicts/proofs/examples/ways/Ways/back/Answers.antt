use Rattle.std.proofs.Common.{◌+◌, ap, drop, ◌∙◌}
use Rattle.lr_conflicts.proofs.Showing.{tail_of}
use Rattle.lr_conflicts.proofs.examples.ways.Ways.back.Goals as goal

pub returns-clause-symbols : goal.returns-clause-symbols
returns-clause-symbols c = tail_of (c.args.item.read + 1) c.symbols_of.result.now ∙ ap (drop (c.args.item.read + 1)) c.symbols_of.ensures.symbols
