use Rattle.std.proofs.Common.{◌≡◌, ◌≤◌, ◌+◌, ◌∷◌, [], map, arith, refl, sym, ap, subst, ◌∙◌}
use Rattle.std.proofs.lemmas.List.{map-append}
use Rattle.cfgcosts.specs.Inner.Minimal.{sentences_in, words_of}
use Rattle.cfgcosts.proofs.Components.{AreMoved, moved_more}
use Rattle.cfgcosts.proofs.Filled.{keeps, taken}
use Rattle.cfgcosts.proofs.generator.SentenceGenerator.all_min_sentences.Goals as goal

pub loop-number-init : goal.loop-number-init
loop-number-init g c =
    let number = g.S.Storage.number in
    subst (λ l. AreMoved c.args.self.now 0 (map (words_of number) l) (sentences_in number c.in_ok-table.table)) (sym c.new-all.ensures.items)
    (record { entries = refl; listed = λ r below. absurd (omega (arith, below)); left = λ r lt above. c.in_ok-table.ensures r lt })

pub loop-number-preserved : goal.loop-number-preserved
loop-number-preserved g c =
    let number = g.S.Storage.number in
    let x = c.args.self.now in
    let r = c.loop-number.number-counter in
    let new = sentences_in number c.remove-sentences.new.self in
    let words = ap (words_of number) c.unwrap_or.ensures ∙ taken number c.loop-number.table r r c.remove-sentences.result c.new.result refl c.remove-sentences.ensures.value c.new.ensures.items in
    let all = ap (map (words_of number)) c.in_ok-push.ensures.items ∙ map-append (words_of number) c.loop-number.all.items (c.unwrap_or.result ∷ []) in
    subst (λ l. AreMoved x (r + 1) l new) (sym all)
    (moved_more x r _ _ _ new c.loop-number.invariant (omega (arith, c.loop-number-test.true, c.to_usize-number-end.ensures.value, c.rules_len.ensures)) words
    (keeps number c.loop-number.table c.remove-sentences.new.self r _ c.remove-sentences.ensures.updates.0))

pub returns : goal.returns
returns g c =
    let moved = c.loop-number.invariant in
    let past : c.args.self.now.grammar.rules ≤ c.loop-number.number-counter = omega (arith, c.loop-number-test.false, c.to_usize-number-end.ensures.value, c.rules_len.ensures) in
    let all : c.loop-number.number-counter ≡ c.args.self.now.grammar.rules = omega (arith, past, c.loop-number.auto.number-counter-end, c.to_usize-number-end.ensures.value, c.rules_len.ensures) in
    record { entries = moved.entries ∙ all; each = λ r lt. moved.listed r (omega (arith, past, lt)) }
