use Rattle.std.proofs.Common.{map, subst}
use Rattle.std.proofs.lemmas.List.{take_all}
use Rattle.cfgcosts.specs.Inner.Minimal.{PutsEach, sentences_in}
use Rattle.cfgcosts.specs.Sentences.{numbers_of}
use Rattle.cfgcosts.proofs.Components.{puts_more, puts_none}
use Rattle.cfgcosts.proofs.Filled.{puts}
use Rattle.cfgcosts.proofs.minimal.table.put_each.Goals as goal

pub loop-rule-init : goal.loop-rule-init
loop-rule-init g c = puts_none _ _

pub loop-rule-preserved : goal.loop-rule-preserved
loop-rule-preserved g c = puts_more c.args.rules.now _ _ _ _ c.loop-rule.rule-index c.loop-rule-test.true c.loop-rule.invariant _ c.in_ok-copied.ensures
    (puts g.S.Storage.number c.loop-rule.table c.insert.new.self _ _ c.in_ok-insert.ensures.updates.0)

pub returns : goal.returns
returns g c =
    let number = g.S.Storage.number in
    subst (λ l. PutsEach l (map (numbers_of number) c.args.words.now) (sentences_in number c.args.table.now) (sentences_in number c.loop-rule.table))
    (take_all c.loop-rule.rule-index c.args.rules.now c.loop-rule-test.false) c.loop-rule.invariant
