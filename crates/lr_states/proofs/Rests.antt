-- One production's nodes after the other's.
use Rattle.std.proofs.Common.{◌≡◌, inl, inr, ℕ, zero, suc, ◌+◌, ◌<◌, ◌≤◌, List, [], ◌∷◌, ◌++◌, get_or, length, add-one, refl, sym, ap, subst, ◌∙◌, arith}
use Rattle.std.proofs.lemmas.Bool.{cases_eq}
use Rattle.std.proofs.lemmas.List.{get_or_append_left, get_or_push, length_push}
use Rattle.cfgrammar.specs.Grammar.{Grammar}
use Rattle.cfgrammar.specs.Openings.{nth_production}
use Rattle.lr_states.specs.Inner.Numbers.{AreRests}

module _ (g : Grammar) (from : ℕ) where
  -- the first nodes of so many productions, and this one after them
  pub record AreSoFar (k : ℕ) (rests : List ℕ) (end : ℕ) : Type 0 where
    pub count : length rests ≡ k + 1
    pub first : get_or rests 0 0 ≡ from
    pub last : get_or rests k 0 ≡ end
    pub each : (p : ℕ) → p < k → get_or rests (p + 1) 0 ≡ get_or rests p 0 + length (nth_production g p).symbols + 1

  pub rests_none : AreSoFar 0 (from ∷ []) from
  rests_none = record { count = omega arith; first = refl; last = refl; each = λ p low. absurd (omega (arith, low)) }

  pub rests_more : (k : ℕ) (rests : List ℕ) (end next : ℕ) → AreSoFar k rests end → next ≡ end + length (nth_production g k).symbols + 1 → AreSoFar (k + 1) (rests ++ next ∷ []) next
  rests_more k rests end next are is =
      let count = are.count in
      let early : (p : ℕ) → p ≤ k → get_or (rests ++ next ∷ []) p 0 ≡ get_or rests p 0 = λ p most. get_or_append_left rests (next ∷ []) 0 p (omega (arith, most, count)) in
      let late : get_or (rests ++ next ∷ []) (k + 1) 0 ≡ next = get_or_push rests next 0 (k + 1) count in
      record {
        count = length_push rests next ∙ ap (λ n. n + 1) count;
        first = early 0 (omega arith) ∙ are.first;
        last = late;
        each = λ p low. elim (cases_eq p k) [
          | inl same ↦ subst (λ m. get_or (rests ++ next ∷ []) (m + 1) 0 ≡ get_or (rests ++ next ∷ []) m 0 + length (nth_production g m).symbols + 1) (sym same)
              (late ∙ is ∙ ap (λ m. m + length (nth_production g k).symbols + 1) (sym (early k (omega arith) ∙ are.last)))
          | inr apart ↦
              let here : p < k = omega (arith, low, apart) in
              early (p + 1) (omega (arith, here)) ∙ are.each p here ∙ ap (λ m. m + length (nth_production g p).symbols + 1) (sym (early p (omega (arith, here))))
        ];
      }

  pub rests_all : (k : ℕ) (rests : List ℕ) (end : ℕ) → k ≡ length g.productions → AreSoFar k rests end → AreRests g from rests
  rests_all k rests end all are = record {
    count = are.count ∙ ap (λ n. n + 1) all;
    first = are.first;
    each = λ p low. are.each p (omega (arith, low, all));
  }

  pub rests_rise : (rests : List ℕ) → AreRests g from rests → (p r : ℕ) → p ≤ r → r ≤ length g.productions → get_or rests p 0 ≤ get_or rests r 0
  rests_rise rests are p zero most within = let same : p ≡ 0 = omega (arith, most) in let firsts = ap (λ k. get_or rests k 0) same in omega (arith, firsts)
  rests_rise rests are p (suc r) most within = elim (cases_eq p (suc r)) [
    | inl same ↦ let firsts = ap (λ k. get_or rests k 0) same in omega (arith, firsts)
    | inr apart ↦
        let early = rests_rise rests are p r (omega (arith, most, apart)) (omega (arith, within)) in
        let more = are.each r (omega (arith, within)) in
        subst (λ m. get_or rests p 0 ≤ get_or rests m 0) (add-one r) (omega (arith, early, more))
  ]
