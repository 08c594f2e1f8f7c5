-- Tables without conflicts, and the three conditions of section 4.4.3.
use Rattle.std.proofs.Common.{◌≡◌, ◌↔◌, inl, inr, ℕ, ◌<◌, [], length, refl, sym, subst, ◌∙◌}
use Rattle.std.proofs.lemmas.Bool.{cases_eq}
use Rattle.cfgrammar.specs.Follow.{MayFollow}
use Rattle.cfgrammar.specs.Grammar.{Grammar, IsGrammar}
use Rattle.cfgrammar.specs.Openings.{nth_production}
use Rattle.generator_tools.specs.Ll1.{IsEntry, IsLl1, IsUsedAt, MeetsConditions}

module _ (g : Grammar) where
  entry : (p r t : ℕ) → p < length g.productions → (nth_production g p).rule ≡ r → IsUsedAt g r (nth_production g p).symbols t → IsEntry g r t p
  entry p r t within owner used = record { within = within; owner = owner; used = used }

  apart_if_ll1 : IsGrammar g → ((r : ℕ) → r < g.rules → (t : ℕ) × (t < g.tokens) × MayFollow g r t) → IsLl1 g → MeetsConditions g
  apart_if_ll1 grammar follows ll1 = λ p q within inside apart same.
      let r = (nth_production g p).rule in
      let rule : r < g.rules = grammar.owners p (record { rule = 0; symbols = [] }) within in
      record {
        first = λ t below f h. apart (ll1 r t p q rule below (entry p r t within refl (inl f)) (entry q r t inside (sym same) (inl h)));
        nullable = λ n m. let (t, below, w) = follows r rule in
            apart (ll1 r t p q rule below (entry p r t within refl (inr (n, w))) (entry q r t inside (sym same) (inr (m, w))));
        follow = λ m t below f w. apart (ll1 r t p q rule below (entry p r t within refl (inl f)) (entry q r t inside (sym same) (inr (m, w))));
      }

  both_used : MeetsConditions g → (r t p q : ℕ) → t < g.tokens → IsEntry g r t p → IsEntry g r t q → (p ≡ q → ⊥) → ⊥
  both_used conditions r t p q below h k apart =
      let c = conditions p q h.within k.within apart (h.owner ∙ sym k.owner) in
      let d = conditions q p k.within h.within (λ e. apart (sym e)) (k.owner ∙ sym h.owner) in
      elim h.used [
        | inl f ↦ elim k.used [
          | inl i ↦ c.first t below f i
          | inr m ↦ c.follow m.0 t below f (subst (λ n. MayFollow g n t) (sym h.owner) m.1)
        ]
        | inr n ↦ elim k.used [
          | inl i ↦ d.follow n.0 t below i (subst (λ n. MayFollow g n t) (sym k.owner) n.1)
          | inr m ↦ c.nullable n.0 m.0
        ]
      ]

  ll1_if_apart : MeetsConditions g → IsLl1 g
  ll1_if_apart conditions = λ r t p q rule below h k. elim (cases_eq p q) [
    | inl same ↦ same
    | inr apart ↦ absurd (both_used conditions r t p q below h k apart)
  ]

  pub ll1_by_conditions : IsGrammar g → ((r : ℕ) → r < g.rules → (t : ℕ) × (t < g.tokens) × MayFollow g r t) → IsLl1 g ↔ MeetsConditions g
  ll1_by_conditions grammar follows = (apart_if_ll1 grammar follows, ll1_if_apart)
