use Rattle.std.proofs.Common.{map}
use Rattle.bison_words.specs.Words.{word_view}
use Rattle.bison_errors.proofs.Steps.{parts_more}
use Rattle.bison_errors.proofs.text_errors.push_parts.Goals as goal

pub loop-part-preserved : goal.loop-part-preserved
loop-part-preserved c =
    parts_more (map word_view c.args.words.now) c.args.parts.now c.loop-part.part-index _ c.loop-part-test.true
    c.loop-part.once c.with-once.result c.noted.result
    c.loop-part.errors.items c.push_priority.new.errors.items c.push_repeat.new.errors.items _
    c.in_ok-push_priority.ensures c.in_ok-push_repeat.ensures c.noted.ensures c.with-once.ensures c.loop-part.invariant
