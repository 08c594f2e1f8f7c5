-- Components of the graph of rules are groups. One after the other, their rules get their results.
use Rattle.std.proofs.Common.{◌≡◌, ◌↔◌, ℕ, ◌+◌, ◌<◌, ◌≤◌, inl, inr, Bool, true, false, cond, ltb, ltb-true, List, [], ◌∷◌, Contains, Option, Some, None, Result, Err, get_or, length, slice_index, sym, ap, subst, ◌∙◌, arith, refl}
use Rattle.std.proofs.lemmas.Bool.{cases_eq, cases_lt, le-ltb, lt-ltb}
use Rattle.std.proofs.lemmas.List.{get_or_default, get_or_past}
use Rattle.derivation.specs.Grammar.{Rule, Grammar, HasProduction}
use Rattle.derivation.specs.declared.errors.CostError.{CostError}
use Rattle.derivation.specs.declared.errors.CostError.TheVariants.{NoSentence}
use Rattle.search.specs.Components.{AreComponents, ReachableFrom}
use Rattle.cfganalysis.specs.ProductiveRules.{AreProductiveRules}
use Rattle.cfggreatest.specs.GreatestCosts.{Means}
use Rattle.cfggreatest.specs.Inner.AtLeast.{HasWord}
use Rattle.cfggreatest.specs.Inner.Edges.{IsEdge}
use Rattle.cfggreatest.specs.Inner.Known.{AreTrue, known_below}
use Rattle.cfggreatest.specs.Inner.Sums.{IsGroup}
use Rattle.cfggreatest.proofs.Edges.{reached_above, reached_word}

-- the results of rules in groups with lower numbers are true
pub record AreSettled (g : Grammar) (cost : ℕ → ℕ) (numbers : List ℕ) (number : ℕ) (results : List (Result (Option ℕ) CostError)) : Type 0 where
  pub all : length results ≡ g.rules
  pub means : (r : ℕ) → r < g.rules → slice_index numbers r < number → Means (HasProduction g) cost r (get_or results r (Err NoSentence))

module _ (g : Grammar) (cost : ℕ → ℕ) (productive : List Bool) (are : AreProductiveRules g productive) (numbers : List ℕ) (members : List (List ℕ))
    (components : AreComponents (IsEdge g productive) g.rules numbers members)
    (number : ℕ) (results : List (Result (Option ℕ) CostError)) (settled : AreSettled g cost numbers number results) (rules : List ℕ) (is : rules ≡ get_or members number []) where
  abbrev known : ℕ → Option (Result (Option ℕ) CostError)
  known r = known_below numbers number results r

  member : (r : ℕ) → Contains rules r ↔ ((r < g.rules) × (slice_index numbers r ≡ number))
  member = subst (λ l. (r : ℕ) → Contains l r ↔ ((r < g.rules) × (slice_index numbers r ≡ number))) (sym is) (components.each number).all

  pub member_within : (r : ℕ) → Contains rules r → r < g.rules
  member_within r among = ((member r).0 among).0

  pub some_member : number < length members → 0 < length rules
  some_member lt = let h = components.some number lt in subst (λ l. 0 < length l) (sym is) (let among = h.1.1 in omega (arith, among))

  at : (r : ℕ) → r < g.rules → get_or numbers r number ≡ slice_index numbers r
  at r lt = get_or_default numbers r number 0 (let entries = components.entries in omega (arith, lt, entries))

  so : AreTrue (HasProduction g) cost (known_below numbers number results)
  so r result e = by (ltb (get_or numbers r number) number) refl e
    where
      by : (b : Bool) → ltb (get_or numbers r number) number ≡ b → (let o : Option (Result (Option ℕ) CostError) = cond b (Some (get_or results r (Err NoSentence))) None in o) ≡ Some result
          → Means (HasProduction g) cost r result
      by false below e = absurd (cc)
      by true below e = subst (Means (HasProduction g) cost r) (let same : get_or results r (Err NoSentence) ≡ result = cc in same)
          (let less = ltb-true (get_or numbers r number) number below in elim (cases_lt r g.rules) [
            | inl lt ↦ settled.means r lt (omega (arith, less, at r lt))
            | inr past ↦ absurd (let entries = components.entries in omega (arith, less, get_or_past numbers r number (omega (arith, past, entries))))
          ])

  unsettled : (r : ℕ) → Contains rules r → known r ≡ None
  unsettled r among = let h = (member r).0 among in
      ap (λ b. let o : Option (Result (Option ℕ) CostError) = cond b (Some (get_or results r (Err NoSentence))) None in o)
      (le-ltb (get_or numbers r number) number (omega (arith, h.1, at r h.0)))

  no_lower : (r : ℕ) → r < g.rules → known r ≡ None → number ≤ slice_index numbers r
  no_lower r lt none = elim (cases_lt (get_or numbers r number) number) [
    | inl less ↦
        let some = ap (λ b. let o : Option (Result (Option ℕ) CostError) = cond b (Some (get_or results r (Err NoSentence))) None in o) (lt-ltb (get_or numbers r number) number less) in
        let no : Some (get_or results r (Err NoSentence)) ≡ None = sym some ∙ none in absurd (cc)
    | inr le ↦ omega (arith, le, at r lt)
  ]

  closed : (r x : ℕ) → Contains rules r → IsEdge g productive r x → known x ≡ None → Contains rules x
  closed r x among edge none =
      let h = (member r).0 among in
      let to = components.order r x h.0 edge in
      (member x).1 (to.0, omega (arith, h.1, to.1, no_lower x to.0 none))

  together : (r x : ℕ) → Contains rules r → Contains rules x → ReachableFrom (IsEdge g productive) r x
  together r x among among' = let h = (member r).0 among in let k = (member x).0 among' in ((components.same r x h.0 k.0).0 (h.1 ∙ sym k.1)).0

  pub is_group : IsGroup g cost productive (known_below numbers number results) rules
  is_group = record {
    so = so;
    bits = are;
    unsettled = unsettled;
    closed = closed;
    above = λ r x among among'. reached_above g productive are r x (together r x among among');
  }

  pub alike : (r x : ℕ) → Contains rules r → Contains rules x → HasWord (HasProduction g) (Rule r ∷ []) → HasWord (HasProduction g) (Rule x ∷ [])
  alike r x among among' = reached_word g productive are r x (together r x among among')

  -- the rules of one more group got their results
  pub settles : (new : List (Result (Option ℕ) CostError)) (result : Result (Option ℕ) CostError) → length new ≡ length results
      → ((r : ℕ) → Contains rules r → get_or new r (Err NoSentence) ≡ result)
      → ((r : ℕ) → (Contains rules r → ⊥) → get_or new r (Err NoSentence) ≡ get_or results r (Err NoSentence))
      → ((r : ℕ) → Contains rules r → Means (HasProduction g) cost r result) → AreSettled g cost numbers (number + 1) new
  settles new result len set rest means = record {
    all = len ∙ settled.all;
    means = λ r lt below. elim (cases_eq (slice_index numbers r) number) [
      | inl same ↦ let among = (member r).1 (lt, same) in subst (Means (HasProduction g) cost r) (sym (set r among)) (means r among)
      | inr other ↦ subst (Means (HasProduction g) cost r) (sym (rest r (λ among. other ((member r).0 among).1))) (settled.means r lt (omega (arith, below, other)))
    ];
  }
