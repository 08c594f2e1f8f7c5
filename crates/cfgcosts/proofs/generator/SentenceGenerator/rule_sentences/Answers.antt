use Rattle.std.proofs.Common.{◌↔◌, ◌<◌, ℕ, [], ◌∷◌, ◌++◌, All, Contains, length, map, sym, ap, subst, ◌∙◌, arith}
use Rattle.std.proofs.lemmas.List.Elements.{All-contains_itself, All-weaker}
use Rattle.cfgcosts.specs.Inner.Minimal.{AreMinimal}
use Rattle.cfgchoices.specs.Kinds.{ReachesBase, production_numbers}
use Rattle.cfgcosts.specs.Sentences.{numbers_of}
use Rattle.cfgcosts.proofs.Filled.{all_minimal, free_alone}
use Rattle.cfgcosts.proofs.generator.SentenceGenerator.rule_sentences.Goals as goal

pub made_words-requires : goal.made_words-requires
made_words-requires g c =
    let base = production_numbers g.S.Storage.number c.in_ok-base.base.items in
    let Is = λ (p : ℕ). p < length c.args.self.now.grammar.productions in
    subst (λ l. All Is (production_numbers g.S.Storage.number l)) (sym c.deref.ensures.value)
    (All-weaker (Contains base) Is (λ p h. ((c.in_ok-base.ensures p).0 h).base.optimal.index) base (All-contains_itself base))

pub returns-then-cost-eq0 : goal.returns-then-cost-eq0
returns-then-cost-eq0 g c =
    let number = g.S.Storage.number in
    let (n, is) = c.invariant_holds.ensures.generator in
    let one = ap (map (numbers_of number)) (c.in_ok-push.ensures.items ∙ ap (λ l. l ++ c.new.result ∷ []) c.new-words.ensures.items) ∙ ap (λ l. map (λ t. number t.0) l ∷ []) c.new.ensures.items in
    subst (AreMinimal c.args.self.now (number c.args.rule.0)) (sym one)
    (free_alone c.args.self.now n is c.invariant_holds.ensures.grammar (number c.args.rule.0) c.args.cost c.requires.known c.if-cost-eq0.true)

pub returns : goal.returns
returns g c =
    let number = g.S.Storage.number in
    let x = c.args.self.now in
    let (n, is) = c.invariant_holds.ensures.generator in
    let r = number c.args.rule.0 in
    let base = subst (λ l. (p : ℕ) → Contains (production_numbers number l) p ↔ ReachesBase x r p) (sym c.deref.ensures.value) c.in_ok-base.ensures in
    all_minimal x n is c.invariant_holds.ensures.grammar r c.args.cost c.requires.known _ (production_numbers number c.deref.result.now) (omega (arith, c.if-cost-eq0.false)) c.requires.ready base _
    c.made_words.result c.made_words.ensures.all c.made_words.ensures.order
