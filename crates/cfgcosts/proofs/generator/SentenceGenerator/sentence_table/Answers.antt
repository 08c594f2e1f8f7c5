use Rattle.std.proofs.Common.{◌<◌, ℕ, [], Contains, length, map, arith, sym, ap, subst, ◌∙◌}
use Rattle.std.specs.BTreeMap.{is_at}
use Rattle.std.specs.Map.{lookup}
use Rattle.std.specs.Option.{option_map, unwrap_or}
use Rattle.std.specs.Ordering.{nat_cmp}
use Rattle.search.specs.Components.{AreComponents}
use Rattle.cfgcosts.specs.Inner.Minimal.{AreListed, IsReadyComponent, PutsEach, Uses, sentences_in, words_of}
use Rattle.cfgcosts.specs.Sentences.{numbers_of}
use Rattle.cfgcosts.proofs.Components.{component_ready, component_some, filled_begins, filled_ends, filled_more}
use Rattle.cfgcosts.proofs.generator.SentenceGenerator.sentence_table.Given.{Over}
use Rattle.cfgcosts.proofs.generator.SentenceGenerator.sentence_table.Goals.{In_ok-components}
use Rattle.cfgcosts.proofs.generator.SentenceGenerator.sentence_table.Goals as goal

components : (g : Over) (c : In_ok-components g)
    → AreComponents (Uses c.args.self.now) c.args.self.now.grammar.rules c.in_ok-components.components.numbers.items c.in_ok-components.components.members
components g c = subst (λ n. AreComponents (Uses c.args.self.now) n c.in_ok-components.components.numbers.items c.in_ok-components.components.members)
    (c.to_usize.ensures.value ∙ c.rules_len.ensures) c.in_ok-components.ensures

pub of-requires : goal.of-requires
of-requires g c = c.to_usize.ensures.value ∙ c.rules_len.ensures

pub loop-number-init : goal.loop-number-init
loop-number-init g c = filled_begins c.args.self.now _ _
    (λ r. ap (λ l. unwrap_or (option_map (words_of g.S.Storage.number) (lookup (is_at (nat_cmp r)) l)) []) c.new-table.ensures.empty)

pub component_sentences-requires-clause-some : goal.component_sentences-requires-clause-some
component_sentences-requires-clause-some g c =
    let are = components g (goal.at.component_sentences-requires-clause-some g c).In_ok-components in
    subst (λ l. 0 < length l) (sym c.of-rules.ensures)
    (component_some c.args.self.now _ _ are c.loop-number.number _ c.loop-number.invariant (omega (arith, c.loop-number-test.true, c.len-number-end.ensures)))

pub component_sentences-requires-clause-ready : goal.component_sentences-requires-clause-ready
component_sentences-requires-clause-ready g c =
    let are = components g (goal.at.component_sentences-requires-clause-ready g c).In_ok-components in
    subst (IsReadyComponent c.args.self.now (sentences_in g.S.Storage.number c.loop-number.table)) (sym c.of-rules.ensures)
    (component_ready c.args.self.now _ _ are c.loop-number.number _ c.loop-number.invariant)

pub loop-number-preserved : goal.loop-number-preserved
loop-number-preserved g c =
    let number = g.S.Storage.number in
    let are = components g (goal.at.loop-number-preserved g c).In_ok-components in
    let old = sentences_in number c.loop-number.table in
    let new = sentences_in number c.put_each.new.table in
    let words = words_of number c.in_ok-words.words in
    let puts = subst (λ l. PutsEach l words old new) c.of-rules.ensures
    (subst (λ l. PutsEach c.of-rules.result.now (map (numbers_of number) l) old new) c.deref.ensures.value c.in_ok-put_each.ensures) in
    filled_more c.args.self.now _ _ are c.loop-number.number old c.loop-number.invariant new words puts
    (subst (λ l. (r : ℕ) → Contains l r → AreListed c.args.self.now r words) c.of-rules.ensures c.in_ok-words.ensures)

pub returns : goal.returns
returns g c =
    let are = components g (goal.at.returns g c).In_ok-components in
    filled_ends c.args.self.now _ _ are c.loop-number.number _ c.loop-number.invariant (omega (arith, c.loop-number-test.false, c.len-number-end.ensures))
