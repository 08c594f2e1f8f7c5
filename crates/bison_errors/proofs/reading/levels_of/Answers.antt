use Rattle.std.proofs.Common.{rules}
use Rattle.bison_reader.specs.Items.{item_view}
use Rattle.bison_errors.specs.Reading.{level_in}
use Rattle.bison_errors.proofs.Steps.{kept_more}
use Rattle.bison_errors.proofs.reading.levels_of.Goals.{in-LevelEnd+in_ok-push, in_default}
use Rattle.bison_errors.proofs.reading.levels_of.Goals as goal

pub loop-item-preserved : goal.loop-item-preserved
loop-item-preserved c =
    kept_more item_view level_in c.args.items.now c.loop-item.item-index c.item-item.result c.loop-item-test.true c.item-item.is
    c.loop-item.levels.items c.match-item.levels.items _
    (elim c.match-item.branch [ in-LevelEnd+in_ok-push w ↦ search rules | in_default w ↦ search rules ])
    c.loop-item.invariant
