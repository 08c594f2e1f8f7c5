use Rattle.std.proofs.Common.{◌≡◌, sym, ◌∙◌, true≢false}
use Rattle.lr_states.proofs.Bits.{bit_read}
use Rattle.lr_conflicts.specs.declared.examples.nodes.Node.TheVariants as nodes
use Rattle.lr_conflicts.specs.Inner.Searches.{setting}
use Rattle.lr_conflicts.proofs.Found.{finds_none}
use Rattle.lr_conflicts.proofs.examples.ways.Ways.add_used.Goals as goal

pub add-requires : goal.add-requires
add-requires c =
    let read = bit_read c.args.self.now.used.now c.args.at.item.production c.get.result c.unwrap_or.result c.get.ensures c.unwrap_or.ensures in
    record { shown = c.requires.shown ((c.requires.ready.used c.args.at.item.production).0 (sym read ∙ c.if-unwrap_or.true)) }

pub returns-else-unwrap_or : goal.returns-else-unwrap_or
returns-else-unwrap_or c =
    let w = setting c.args.self.now in
    let read = bit_read c.args.self.now.used.now c.args.at.item.production c.get.result c.unwrap_or.result c.get.ensures c.unwrap_or.ensures in
    finds_none w (λ n. w.Used c.args.at.item.production × (n ≡ nodes.Item c.args.at)) c.args.found.now.entries
    (λ n h. true≢false (sym ((c.requires.ready.used c.args.at.item.production).1 h.0) ∙ sym read ∙ c.if-unwrap_or.false))
