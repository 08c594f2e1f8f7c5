use Rattle.std.proofs.lemmas.List.Elements.{Contains-get_or}
use Rattle.bison_findings.proofs.states.write_items.Goals as goal

pub write_item_line-requires : goal.write_item_line-requires
write_item_line-requires c = c.requires _ (Contains-get_or c.args.items.now c.loop-item.item-index _ c.loop-item-test.true)
