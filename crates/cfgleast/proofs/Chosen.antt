-- Rules that are settled one by one, each by a production whose rules are settled.
use Rattle.std.proofs.Common.{◌≡◌, ℕ, ◌+◌, ◌<◌, inl, inr, List, length, get_or, slice_set, replicate, Option, Some, None, arith, refl, sym, ap, subst, ◌∙◌, length-set}
use Rattle.std.specs.Prelude.{IsSomeAnd}
use Rattle.std.proofs.lemmas.List.{get_or-set_same, length-replicate}
use Rattle.std.proofs.lemmas.List.Folds.{sum_by-replicate}
use Rattle.std.proofs.lemmas.List.Sums.{sum_by-set}
use Rattle.std.proofs.lemmas.List.Elements.{All-weaker}
use Rattle.lemmas.proofs.Elements.{get_or-set, get_or-replicate_default}
use Rattle.derivation.specs.Grammar.{Sym, Rule, Token, Grammar}
use Rattle.cfgtables.specs.Openings.{nth_production}
use Rattle.derivation.specs.Sums.{symbol_cost}
use Rattle.derivation.specs.CostLists.{rule_cost}
use Rattle.cfgleast.specs.Certificate.{IsChosenBelow, rule_choice}
use Rattle.cfgleast.specs.CutSums.{IsCutSum}
use Rattle.cfgleast.specs.Settled.{unsettled, IsSettledBy, AreSettledSoFar}
use Rattle.cfgleast.proofs.Gains.{Gains, HasCost, all_have_costs, rule_gained, sequence_kept}

module _ (g : Grammar) (cost : ℕ → ℕ) where
  none_chosen : AreSettledSoFar g cost (replicate g.rules None) (replicate g.rules None) 0
  none_chosen = record {
    costs = length-replicate g.rules None;
    listed = length-replicate g.rules None;
    counted = let e = sum_by-replicate unsettled g.rules None in omega (arith, e);
    chosen = λ r c e. let no : None ≡ Some c = sym (get_or-replicate_default g.rules r None) ∙ e in absurd (cc);
    none = λ r e. get_or-replicate_default g.rules r None;
  }

  pub none_chosen_yet : (least : List (Option ℕ)) (choices : List (Option (ℕ × ℕ))) (n : ℕ) → least ≡ replicate g.rules None → choices ≡ replicate g.rules None → n ≡ 0
      → AreSettledSoFar g cost least choices n
  none_chosen_yet least choices n e f h = subst (λ l. AreSettledSoFar g cost l choices n) (sym e)
      (subst (λ l. AreSettledSoFar g cost (replicate g.rules None) l n) (sym f) (subst (AreSettledSoFar g cost (replicate g.rules None) (replicate g.rules None)) (sym h) none_chosen))

  module _ (least : List (Option ℕ)) (choices : List (Option (ℕ × ℕ))) (n : ℕ) (state : AreSettledSoFar g cost least choices n) (r : ℕ)
      (within : r < g.rules) (open' : rule_cost least r ≡ None) where
    in_costs : r < length least
    in_costs = subst (λ m. r < m) (sym state.costs) within

    pub gains_one : (c : ℕ) → Gains (rule_cost least) (rule_cost (slice_set least r (Some c))) r c
    gains_one c = record {
      before = open';
      now = get_or-set_same least r (Some c) None in_costs;
      others = λ q. elim (get_or-set least r q (Some c) None) [ inl e ↦ inl e | inr e ↦ inr e.0 ];
    }

    module _ (c p : ℕ) (index : p < length g.productions) (owner : (nth_production g p).rule ≡ r)
        (sum : IsCutSum cost (rule_cost least) (nth_production g p).symbols c) where
      sum_stays : (a : List Sym) (d : ℕ) → IsCutSum cost (rule_cost least) a d → IsCutSum cost (rule_cost (slice_set least r (Some c))) a d
      sum_stays a d h = record { total = h.total; is = sequence_kept cost (rule_cost least) (rule_cost (slice_set least r (Some c))) r c (gains_one c) a h.total h.is; cut = h.cut }

      choice_stays : (q : ℕ) (choice : ℕ × ℕ) → rule_choice choices q ≡ Some choice → rule_choice (slice_set choices r (Some (p, n))) q ≡ Some choice
      choice_stays q choice e = elim (get_or-set choices r q (Some (p, n)) None) [
        | inl same ↦ same ∙ e
        | inr is ↦ let no : None ≡ Some choice = sym (state.none r open') ∙ ap (rule_choice choices) (sym is.0) ∙ e in absurd (cc)
      ]

      below_stays : (m : ℕ) (s : Sym) → IsChosenBelow choices m s → IsChosenBelow (slice_set choices r (Some (p, n))) m s
      below_stays m (Token t) h = tt
      below_stays m (Rule q) h = go (rule_choice choices q) refl h
        where
          go : (o : Option (ℕ × ℕ)) → rule_choice choices q ≡ o → IsSomeAnd o (λ choice. choice.1 < m)
              → IsSomeAnd (rule_choice (slice_set choices r (Some (p, n))) q) (λ choice. choice.1 < m)
          go None e h = absurd h
          go (Some choice) e h = subst (λ o. IsSomeAnd o (λ choice. choice.1 < m)) (sym (choice_stays q choice e)) h

      below_now : (s : Sym) → HasCost (symbol_cost cost (rule_cost least)) s → IsChosenBelow (slice_set choices r (Some (p, n))) n s
      below_now (Token t) h = tt
      below_now (Rule q) h =
          let (p', m, by, lt) = state.chosen q h.value h.is in
          subst (λ o. IsSomeAnd o (λ choice. choice.1 < n)) (sym (choice_stays q (p', m) by.choice)) lt

      settled_stays : (q d p' m : ℕ) → IsSettledBy g cost least choices q d p' m → IsSettledBy g cost (slice_set least r (Some c)) (slice_set choices r (Some (p, n))) q d p' m
      settled_stays q d p' m by = record {
        choice = choice_stays q (p', m) by.choice;
        index = by.index;
        owner = by.owner;
        sum = sum_stays _ d by.sum;
        below = All-weaker (IsChosenBelow choices m) (IsChosenBelow (slice_set choices r (Some (p, n))) m) (below_stays m) _ by.below;
      }

      settled_now : IsSettledBy g cost (slice_set least r (Some c)) (slice_set choices r (Some (p, n))) r c p n
      settled_now = record {
        choice = get_or-set_same choices r (Some (p, n)) None (subst (λ m. r < m) (sym state.listed) within);
        index = index;
        owner = owner;
        sum = sum_stays _ c sum;
        below = All-weaker (HasCost (symbol_cost cost (rule_cost least))) (IsChosenBelow (slice_set choices r (Some (p, n))) n) below_now _
            (all_have_costs (symbol_cost cost (rule_cost least)) (nth_production g p).symbols sum.total sum.is);
      }

      one_chosen : (q d : ℕ) → rule_cost (slice_set least r (Some c)) q ≡ Some d
          → (p' : ℕ) × (m : ℕ) × IsSettledBy g cost (slice_set least r (Some c)) (slice_set choices r (Some (p, n))) q d p' m × (m < n + 1)
      one_chosen q d e = elim (rule_gained cost (rule_cost least) (rule_cost (slice_set least r (Some c))) r c (gains_one c) q d e) [
        | inl k ↦ let (p', m, by, lt) = state.chosen q d k in (p', m, settled_stays q d p' m by, (omega (arith, lt)))
        | inr k ↦ (
          p,
          n,
          subst (λ x. IsSettledBy g cost (slice_set least r (Some c)) (slice_set choices r (Some (p, n))) x d p n) (sym k.0)
              (subst (λ x. IsSettledBy g cost (slice_set least r (Some c)) (slice_set choices r (Some (p, n))) r x p n) (sym k.1) settled_now),
          (omega arith),
        )
      ]

      one_none : (q : ℕ) → rule_cost (slice_set least r (Some c)) q ≡ None → rule_choice (slice_set choices r (Some (p, n))) q ≡ None
      one_none q e = elim (get_or-set choices r q (Some (p, n)) None) [
        | inr is ↦ let no : Some c ≡ None = sym (get_or-set_same least r (Some c) None in_costs) ∙ ap (rule_cost (slice_set least r (Some c))) (sym is.0) ∙ e in absurd (cc)
        | inl same ↦ elim (get_or-set least r q (Some c) None) [
          | inl k ↦ same ∙ state.none q (sym k ∙ e)
          | inr k ↦ let no : Some c ≡ None = sym k.1 ∙ e in absurd (cc)
        ]
      ]

      -- one more rule
      pub chosen_more : AreSettledSoFar g cost (slice_set least r (Some c)) (slice_set choices r (Some (p, n))) (n + 1)
      chosen_more = record {
        costs = length-set least r (Some c) ∙ state.costs;
        listed = length-set choices r (Some (p, n)) ∙ state.listed;
        counted =
            let one : unsettled (get_or least r None) ≡ 1 = ap unsettled open' in
            let change = sum_by-set unsettled least r (Some c) None in_costs in
            omega (arith, one, change, state.counted);
        chosen = one_chosen;
        none = one_none;
      }
