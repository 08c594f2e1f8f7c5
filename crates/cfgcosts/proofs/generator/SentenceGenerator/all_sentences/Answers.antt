use Rattle.std.proofs.Common.{◌≡◌, ◌<◌, ℕ, ◌∷◌, Some, inl, sym, ap, subst, arith, ◌∙◌}
use Rattle.std.proofs.lemmas.List.Sorted.{length_permutation}
use Rattle.cfgleast.specs.Generator.{cost_answer}
use Rattle.cfgcosts.specs.Inner.Minimal.{AreMinimal, IsReadyFor, sentences_in, words_of}
use Rattle.cfgcosts.proofs.Filled.{Filling, filling_goes_on, filling_ends, popped_answer, popped_ready, puts, taken}
use Rattle.cfgchoices.proofs.Optimal.{answered_within}
use Rattle.cfgcosts.proofs.generator.SentenceGenerator.all_sentences.Goals as goal

pub loop-cost-init : goal.loop-cost-init
loop-cost-init g c = (c.in_ok-requested.requested, c.in_ok-requested.ensures, record { among = λ d q h. h; filled = λ d q h. inl h })

pub returns : goal.returns
returns g c =
    let number = g.S.Storage.number in
    let (all, requested, filling) = c.loop-cost.invariant in
    let full = filling_ends c.args.self.now (number c.args.rule.0) all (sentences_in number c.loop-cost.table) requested
    (subst (λ l. Filling c.args.self.now all l (sentences_in number c.loop-cost.table)) c.in_default.ensures.none filling) in
    subst (AreMinimal c.args.self.now (number c.args.rule.0)) (sym (ap (words_of number) c.unwrap_or.ensures ∙ taken number c.loop-cost.table c.from.result (number c.args.rule.0) c.remove-all.result c.new.result
    c.from.ensures c.remove-all.ensures.value c.new.ensures.items)) full

pub to_storage-requires : goal.to_storage-requires
to_storage-requires g c =
    let (all, requested, filling) = c.loop-cost.invariant in
    let (n, is) = c.invariant_holds.ensures.generator in
    let within = answered_within c.args.self.now n is c.in-Some.number c.in-Some.cost
    (popped_answer c.args.self.now c.pop.new.self (c.in-Some.cost, c.in-Some.number) requested filling c.in-Some.ensures.out c.in-Some.ensures.least) in
    omega (arith, within, c.invariant_holds.ensures.rules)

pub rule_sentences-requires : goal.rule_sentences-requires
rule_sentences-requires g c =
    let (all, requested, filling) = c.loop-cost.invariant in
    let (n, is) = c.invariant_holds.ensures.generator in
    let x = c.args.self.now in
    let top : ℕ × ℕ = (c.in-Some.cost, c.in-Some.number) in
    let answer = popped_answer x c.pop.new.self top requested filling c.in-Some.ensures.out c.in-Some.ensures.least in
    record {
      rule = subst (λ m. m < x.grammar.rules) (sym c.to_storage.ensures) (answered_within x n is c.in-Some.number c.in-Some.cost answer);
      known = subst (λ m. cost_answer x m ≡ Some c.in-Some.cost) (sym c.to_storage.ensures) answer;
      ready = subst (IsReadyFor x (sentences_in g.S.Storage.number c.loop-cost.table)) (sym c.to_storage.ensures)
          (popped_ready x c.pop.new.self top requested filling c.in-Some.ensures.out c.in-Some.ensures.least n is c.invariant_holds.ensures.grammar);
    }

pub loop-cost-preserved : goal.loop-cost-preserved
loop-cost-preserved g c =
    let number = g.S.Storage.number in
    let (all, requested, filling) = c.loop-cost.invariant in
    let words = words_of number c.in_ok-sentences.sentences in
    let minimal = subst (λ r. AreMinimal c.args.self.now r words) c.to_storage.ensures c.in_ok-sentences.ensures in (
      all,
      requested,
      filling_goes_on c.args.self.now c.pop.new.self (c.in-Some.cost, c.in-Some.number) requested filling c.in-Some.ensures.out c.in-Some.ensures.least _ words (puts number c.loop-cost.table c.insert.new.self _ _ c.in_ok-insert.ensures.updates.0) minimal,
    )

pub loop-cost-smaller : goal.loop-cost-smaller
loop-cost-smaller g c =
    let long = length_permutation c.loop-cost.requested ((c.in-Some.cost, c.in-Some.number) ∷ c.pop.new.self) c.in-Some.ensures.out in omega (arith, long)
