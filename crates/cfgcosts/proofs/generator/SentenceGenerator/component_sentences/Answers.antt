use Rattle.std.proofs.Common.{◌<◌, ◌++◌, ◌∷◌, ℕ, [], All, Contains, length, map, ap, rules, sym, subst, ◌∙◌}
use Rattle.std.proofs.lemmas.List.Elements.{All-contains_itself, All-weaker, Contains-get_or}
use Rattle.cfgchoices.specs.Kinds.{production_numbers}
use Rattle.cfgcosts.specs.Inner.Minimal.{AreListed}
use Rattle.cfgcosts.specs.Sentences.{numbers_of}
use Rattle.cfgcosts.proofs.Components.{AreOptimal, component_all, free_listed}
use Rattle.cfgcosts.proofs.generator.SentenceGenerator.component_sentences.Goals as goal

pub is_free-requires : goal.is_free-requires
is_free-requires g c = c.requires.ready.within _ (Contains-get_or c.args.rules.now 0 0 c.requires.some)

pub made_words-requires : goal.made_words-requires
made_words-requires g c =
    let optimal = production_numbers g.S.Storage.number c.in_ok-optimal.optimal.items in
    let Is = λ (p : ℕ). p < length c.args.self.now.grammar.productions in
    subst (λ l. All Is (production_numbers g.S.Storage.number l)) (sym c.deref.ensures.value)
    (All-weaker (Contains optimal) Is (λ p h. ((c.in_ok-optimal.ensures p).0 h).1.index) optimal (All-contains_itself optimal))

pub returns-then-is_free : goal.returns-then-is_free
returns-then-is_free g c = λ r among.
    let number = g.S.Storage.number in
    let x = c.args.self.now in
    let (n, is) = c.invariant_holds.ensures.generator in
    let first = Contains-get_or c.args.rules.now 0 0 c.requires.some in
    let one = ap (map (numbers_of number)) (c.in_ok-push.ensures.items ∙ ap (λ l. l ++ c.new.result ∷ []) c.new-words.ensures.items) ∙ ap (λ l. map (λ t. number t.0) l ∷ []) c.new.ensures.items in
    subst (AreListed x r) (sym one) (free_listed x n is c.invariant_holds.ensures.grammar _ c.args.rules.now c.requires.ready _ r first among (c.is_free.ensures.0 c.if-is_free.true))

pub returns : goal.returns
returns g c =
    let number = g.S.Storage.number in
    let x = c.args.self.now in
    let (n, is) = c.invariant_holds.ensures.generator in
    let first = Contains-get_or c.args.rules.now 0 0 c.requires.some in
    let all = subst (λ l. AreOptimal x c.args.rules.now (production_numbers number l)) (sym c.deref.ensures.value) c.in_ok-optimal.ensures in
    component_all x n is c.invariant_holds.ensures.grammar _ c.args.rules.now c.requires.ready _ all _ first (λ none. let free = c.is_free.ensures.1 none in let paid = c.if-is_free.false in search rules)
    _ c.made_words.result c.made_words.ensures.all c.made_words.ensures.order
