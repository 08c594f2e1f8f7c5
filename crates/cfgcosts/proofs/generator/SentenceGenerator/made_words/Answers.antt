use Rattle.std.proofs.Common.{◌↔◌, ◌<◌, ◌++◌, ◌∷◌, ℕ, [], Contains, length, map, take, sym, ap, subst, ◌∙◌, arith}
use Rattle.std.specs.List.{flat_map}
use Rattle.std.specs.Cmp.Lexicographic.{lists_ties}
use Rattle.std.proofs.lemmas.List.{flat_map_more, length-map, map-append, take_all, take_more}
use Rattle.cfgtables.specs.Openings.{nth_production}
use Rattle.cfgtables.proofs.Slices.{mapped_within, mapped_at, mapped_all}
use Rattle.cfgleast.specs.Generator.{CostTables}
use Rattle.cfgchoices.specs.Kinds.{production_numbers}
use Rattle.cfgcosts.specs.Inner.Minimal.{sequence_words, sentences_in, words_of}
use Rattle.cfgcosts.specs.Sentences.{numbers_of}
use Rattle.cfgcosts.proofs.Filled.{made_by}
use Rattle.cfgcosts.proofs.Sorted.{in_order, order_shown, same_words}
use Rattle.cfgcosts.proofs.generator.SentenceGenerator.made_words.Goals as goal

pub prod-requires : goal.prod-requires
prod-requires g c = subst (λ (x : CostTables). g.S.Storage.number c.p-item.result.0 < length x.grammar.productions) (sym c.self.view_is)
    (mapped_all (λ p. g.S.Storage.number p.0) _ _ _ c.p-item.is c.loop-p-test.true (λ p. p < length c.args.self.now.grammar.productions) c.requires)

pub loop-p-preserved : goal.loop-p-preserved
loop-p-preserved g c =
    let number = g.S.Storage.number in
    let sentences = sentences_in number c.args.table.now in
    let positions = production_numbers number c.args.base.now in
    let i = c.loop-p.p-index in
    let p = number c.p-item.result.0 in
    let within = mapped_within (λ p. number p.0) _ _ _ c.p-item.is c.loop-p-test.true in
    let at = mapped_at (λ p. number p.0) _ _ _ c.p-item.is c.loop-p-test.true in
    let sequences = λ (p : ℕ). sequence_words sentences (nth_production c.args.self.now.grammar p).symbols in
    let symbols = c.prod.ensures ∙ ap (λ (y : CostTables). (nth_production y.grammar p).symbols) c.self.view_is in
    ap (map (numbers_of number)) c.in_ok-append.ensures.items ∙ map-append (numbers_of number) c.loop-p.words.items c.in_ok-made.made.items
    ∙ ap (λ l. l ++ words_of number c.in_ok-made.made) c.loop-p.invariant ∙ ap (λ l. flat_map sequences (take i positions) ++ l) (c.in_ok-made.ensures ∙ ap (sequence_words sentences) symbols)
    ∙ flat_map_more sequences [] (take i positions) p ∙ ap (flat_map sequences) (sym (take_more positions i p within ∙ ap (λ q. take i positions ++ (q ∷ [])) (sym at)))

pub returns-clause-all : goal.returns-clause-all
returns-clause-all g c = λ w.
    let number = g.S.Storage.number in
    let positions = production_numbers number c.args.base.now in
    let sentences = sentences_in number c.args.table.now in
    let sequences = λ (p : ℕ). sequence_words sentences (nth_production c.args.self.now.grammar p).symbols in
    let whole = take_all c.loop-p.p-index positions (simp length-map (omega (arith, c.loop-p-test.false, c.loop-p.auto.p-index-end))) in
    let same = same_words (numbers_of number) _ _ (λ v w. order_shown _ (λ t. number t.0) (λ x y. g.met.S.Storage.ordered x.0 y.0) v.items w.items)
    (λ v w. lists_ties _ (λ x y. g.met.S.Ord.matches_eq x.0 y.0) v.items w.items) _ _ c.sort_unstable.ensures.sorted c.dedup.ensures.filtered _ c.sort_unstable.ensures.permutation w in
    let made = subst (λ l. Contains l w ↔ Contains (flat_map sequences positions) w) (sym (c.loop-p.invariant ∙ ap (flat_map sequences) whole)) (λ h. h, λ h. h) in
    let by = made_by c.args.self.now.grammar sentences positions w in
    (λ h. by.0 (made.0 (same.0 h)), λ m. same.1 (made.1 (by.1 m)))

pub returns-clause-order : goal.returns-clause-order
returns-clause-order g c =
    let number = g.S.Storage.number in
    in_order (numbers_of number) _ _ (λ v w. order_shown _ (λ t. number t.0) (λ x y. g.met.S.Storage.ordered x.0 y.0) v.items w.items)
    (λ v w. lists_ties _ (λ x y. g.met.S.Ord.matches_eq x.0 y.0) v.items w.items) _ _ c.sort_unstable.ensures.sorted c.dedup.ensures.filtered
