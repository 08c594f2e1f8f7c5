-- One iteration of the settling: the top of the queue is removed, and its rule is settled, if it isn't yet.
use Rattle.std.proofs.Common.{◌≡◌, ℕ, ◌+◌, ◌<◌, List, [], ◌∷◌, length, get_or, slice_set, Option, Some, None, is_some, true, false, Contains, sym, ap, subst, ◌∙◌, true≢false}
use Rattle.std.proofs.lemmas.List.Elements.{All-weaker, All-contains_itself}
use Rattle.std.proofs.lemmas.List.Sorted.{IsPermutation-sym}
use Rattle.std.proofs.lemmas.List.{get_or_default}
use Rattle.lemmas.proofs.Options.{None-from_is_some}
use Rattle.derivation.specs.Grammar.{Grammar, IsGrammar}
use Rattle.cfgtables.specs.Openings.{nth_production}
use Rattle.cfgleast.specs.declared.partial.Partial.{Partial}
use Rattle.derivation.specs.CostLists.{rule_cost}
use Rattle.cfgleast.specs.Inner.Open.{WaitsFor, AreAllOpen, AreBests, AreWaking, waiting_for}
use Rattle.cfgleast.specs.Inner.Open.{HasPopped}
use Rattle.cfgleast.specs.Settled.{AreSettledSoFar}
use Rattle.cfgleast.proofs.Opened.{top_in, popped_bests, popped_past, settled_bests, settled_open, woken_wait}
use Rattle.cfgleast.proofs.Chosen.{gains_one, chosen_more}

module _ (g : Grammar) (cost : ℕ → ℕ) (least : List (Option ℕ)) (top : ℕ × ℕ) (queue : List (ℕ × ℕ)) (bests : List ℕ) (waiting : List (List Partial))
    (popped : HasPopped g cost least top queue bests waiting) where
  top_queued : Contains popped.before top
  top_queued = top_in top queue popped.before (IsPermutation-sym popped.before (top ∷ queue) popped.out)

  pub popped_position : top.1 < length g.productions
  popped_position = popped.state.1.queued_position top.0 top.1 top_queued

  pub popped_again : (r d : ℕ) → (nth_production g top.1).rule ≡ r → rule_cost least r ≡ Some d → AreAllOpen cost (rule_cost least) g queue waiting
  popped_again r d owner e = (
    popped.state.0,
    popped_past g cost (rule_cost least) popped.state.0 popped.before queue waiting (λ p. ⊥) top.0 top.1 d popped.out
        (ap (rule_cost least) owner ∙ e) popped.state.1,
  )

  pub popped_bests_again : (r d : ℕ) → (nth_production g top.1).rule ≡ r → rule_cost least r ≡ Some d → AreBests cost (rule_cost least) g queue bests
  popped_bests_again r d owner e = popped_bests g cost (rule_cost least) popped.state.0 popped.before queue waiting (λ p. ⊥) top.0 top.1 d popped.out
      (ap (rule_cost least) owner ∙ e) popped.state.1 bests popped.known

  module _ (choices : List (Option (ℕ × ℕ))) (n r : ℕ) (chosen : AreSettledSoFar g cost least choices n) (within : r < g.rules) (unset : rule_cost least r ≡ None)
      (owner : (nth_production g top.1).rule ≡ r) where
    pub settles_chosen : (least' : List (Option ℕ)) (choices' : List (Option (ℕ × ℕ))) (n' : ℕ) → least' ≡ slice_set least r (Some top.0)
        → choices' ≡ slice_set choices r (Some (top.1, n)) → n' ≡ n + 1 → AreSettledSoFar g cost least' choices' n'
    settles_chosen least' choices' n' e f h = subst (λ l. AreSettledSoFar g cost l choices' n') (sym e) (subst (λ l. AreSettledSoFar g cost (slice_set least r (Some top.0)) l n') (sym f)
        (subst (AreSettledSoFar g cost (slice_set least r (Some top.0)) (slice_set choices r (Some (top.1, n)))) (sym h)
        (chosen_more g cost least choices n chosen r within unset top.0 top.1 popped_position owner (popped.state.1.queued_sum top.0 top.1 top_queued))))

    settles_waking : AreWaking cost (rule_cost (slice_set least r (Some top.0))) g queue (slice_set waiting r []) (waiting_for waiting r) 0
    settles_waking =
        let gains = gains_one g cost least choices n chosen r within unset top.0 in
        record {
          rule = r;
          floor = top.0;
          now = gains.now;
          for = All-weaker (Contains (waiting_for waiting r)) (WaitsFor cost (rule_cost (slice_set least r (Some top.0))) g r)
              (woken_wait g cost (rule_cost least) (rule_cost (slice_set least r (Some top.0))) r top.0 gains popped.state.0 top.1 owner popped.before queue waiting
              popped.out popped.cheapest (λ p. ⊥) (λ q h. h) popped.state.1) (waiting_for waiting r) (All-contains_itself (waiting_for waiting r));
          state = settled_open g cost (rule_cost least) (rule_cost (slice_set least r (Some top.0))) r top.0 gains popped.state.0 top.1 owner popped.before queue waiting
              popped.out popped.cheapest (λ p. ⊥) (λ q h. h) popped.state.1;
        }

    pub settles_bests : (least' : List (Option ℕ)) → least' ≡ slice_set least r (Some top.0) → AreBests cost (rule_cost least') g queue bests
    settles_bests least' e = subst (λ l. AreBests cost (rule_cost l) g queue bests) (sym e)
        (settled_bests g cost (rule_cost least) (rule_cost (slice_set least r (Some top.0))) r top.0 (gains_one g cost least choices n chosen r within unset top.0)
        popped.state.0 top.1 owner popped.before queue waiting popped.out popped.cheapest (λ p. ⊥) (λ q h. h) popped.state.1 bests popped.known)

    pub settles_woken : (least' : List (Option ℕ)) (waiting' : List (List Partial)) (woken : List Partial) → least' ≡ slice_set least r (Some top.0)
        → waiting' ≡ slice_set waiting r [] → woken ≡ waiting_for waiting r → AreWaking cost (rule_cost least') g queue waiting' woken 0
    settles_woken least' waiting' woken e f h = subst (λ l. AreWaking cost (rule_cost l) g queue waiting' woken 0) (sym e)
        (subst (λ l. AreWaking cost (rule_cost (slice_set least r (Some top.0))) g queue l woken 0) (sym f)
        (subst (λ l. AreWaking cost (rule_cost (slice_set least r (Some top.0))) g queue (slice_set waiting r []) l 0) (sym h) settles_waking))

-- what a look at a rule's entry says
pub settled_if_some : (least : List (Option ℕ)) (r : ℕ) (entry : Option ℕ) → r < length least → entry ≡ get_or least r entry → is_some entry ≡ true
    → (d : ℕ) × (rule_cost least r ≡ Some d)
settled_if_some least r entry within at h = go entry h (get_or_default least r None entry within ∙ sym at)
  where
    go : (o : Option ℕ) → is_some o ≡ true → rule_cost least r ≡ o → (d : ℕ) × (rule_cost least r ≡ Some d)
    go None h e = absurd (true≢false (sym h))
    go (Some d) h e = (d, e)

pub unset_if_none : (least : List (Option ℕ)) (r : ℕ) (entry : Option ℕ) → r < length least → entry ≡ get_or least r entry → is_some entry ≡ false
    → rule_cost least r ≡ None
unset_if_none least r entry within at h = get_or_default least r None entry within ∙ sym at ∙ None-from_is_some entry h

-- a production's rule is a rule of the grammar
pub owner_within : (g : Grammar) (p : ℕ) → IsGrammar g → p < length g.productions → (nth_production g p).rule < g.rules
owner_within g p is within = is.owners p (record { rule = 0; symbols = [] }) within
