-- Least costs and choices, read from the rules that are settled.
use Rattle.std.proofs.Common.{◌≡◌, ℕ, ◌<◌, ◌≤◌, min, List, [], ◌∷◌, Option, Some, None, Result, Ok, Err, arith, refl, sym, ap, subst, ◌∙◌}
use Rattle.std.proofs.lemmas.Option.{none-some, same_Some}
use Rattle.std.proofs.lemmas.List.{get_or_default}
use Rattle.derivation.specs.Grammar.{Rule, Grammar, HasProduction}
use Rattle.derivation.specs.Sentence.{Sentence, cost_of}
use Rattle.derivation.specs.Costs.{Least}
use Rattle.derivation.proofs.Concatenation.{derives_trans, derives_production}
use Rattle.derivation.proofs.Costs.{least_is_one}
use Rattle.derivation.proofs.Trees.{trees_from_derivation, derivation_from_trees}
use Rattle.cfgtables.specs.Openings.{nth_production}
use Rattle.cfgtables.proofs.Located.{at_position}
use Rattle.derivation.specs.Sums.{sum_of, symbol_cost}
use Rattle.derivation.specs.CostLists.{rule_cost}
use Rattle.cfgleast.specs.Certificate.{rule_choice}
use Rattle.cfgleast.specs.Settled.{AreSettled}
use Rattle.derivation.specs.declared.errors.CostError.{CostError}
use Rattle.derivation.specs.declared.errors.CostError.TheVariants.{NoSentence, CostTooLarge}
use Rattle.cfgleast.specs.Generator.{IsTooLarge, ReturnsLeast, IsLeastProduction}
use Rattle.derivation.proofs.Sums.{plus_zero}
use Rattle.derivation.proofs.Made.{made_sequence, cut_over}
use Rattle.cfgleast.proofs.TreeSums.{Choice, reached}
use Rattle.cfgleast.proofs.Bounds.{IsAtMostCut, CoversCut, lower_bound_cut}

module _ (g : Grammar) (cost : ℕ → ℕ) (least : List (Option ℕ)) (choices : List (Option (ℕ × ℕ))) (n : ℕ) (state : AreSettled g cost least choices n) where
  covers : CoversCut (HasProduction g) cost (rule_cost least) 65536
  covers = record {
    covers = λ r m symbols has e.
        let same = get_or_default g.productions has.0 (record { rule = 0; symbols = [] }) (record { rule = r; symbols = symbols }) has.1 ∙ has.2 in
        let (d, is, within) = state.covered has.0 m has.1 (ap (λ p. sum_of (symbol_cost cost (rule_cost least)) p.symbols) same ∙ e) in
        record { value = d; is = ap (λ p. rule_cost least p.rule) (sym same) ∙ is; within = within };
  }

  -- each sentence costs at least what the table says, cut down
  below : (r : ℕ) (w : List ℕ) → Sentence (HasProduction g) r w → IsAtMostCut 65536 (rule_cost least r) (cost_of cost w)
  below r w s = subst (λ o. IsAtMostCut 65536 o (cost_of cost w)) (plus_zero (rule_cost least r))
      (lower_bound_cut (HasProduction g) cost (rule_cost least) 65536 covers (trees_from_derivation (HasProduction g) (Rule r ∷ []) w s))

  chosen : (r c : ℕ) → rule_cost least r ≡ Some c
      → Choice (HasProduction g) cost (symbol_cost cost (rule_cost least)) (λ c n. min c 65536 ≡ min n 65536) choices r c
  chosen r c e =
      let (p, m, by, lt) = state.chosen.chosen r c e in
      record {
        choice = (p, m);
        choice_is = by.choice;
        symbols = (nth_production g p).symbols;
        sum = by.sum.total;
        has = at_position g p _ by.index (sym by.owner) refl;
        sum_is = by.sum.is;
        holds = λ k h. omega (arith, by.sum.cut, h);
        below = by.below;
      }

  -- a sentence of that cost, cut down
  some_sentence : (r c : ℕ) → rule_cost least r ≡ Some c → (w : List ℕ) × Sentence (HasProduction g) r w × (min c 65536 ≡ min (cost_of cost w) 65536)
  some_sentence r c e =
      let made = reached (HasProduction g) cost (symbol_cost cost (rule_cost least)) (λ c n. min c 65536 ≡ min n 65536) (cut_over cost (rule_cost least) 65536)
      choices chosen r c e in
      (made.word, derivation_from_trees (HasProduction g) made.tree, made.holds)

  no_less : (r c : ℕ) → rule_cost least r ≡ Some c → (w : List ℕ) → Sentence (HasProduction g) r w → c ≤ cost_of cost w
  no_less r c e w s =
      let b = below r w s in
      let same : c ≡ b.value = same_Some _ _ (sym e ∙ b.is) in
      let (p, m, by, lt) = state.chosen.chosen r c e in
      omega (arith, same, b.within, by.sum.cut)

  pub least_settled : (r c : ℕ) → rule_cost least r ≡ Some c → c ≤ 65535 → Least (HasProduction g) cost r c
  least_settled r c e small =
      let (w, s, cut) = some_sentence r c e in
      ((w, s, (omega (arith, cut, small))), no_less r c e)

  pub too_large_settled : (r c : ℕ) → rule_cost least r ≡ Some c → 65535 < c → IsTooLarge (HasProduction g) cost r
  too_large_settled r c e large =
      let (w, s, cut) = some_sentence r c e in
      ((w, s), λ v t. let more = no_less r c e v t in omega (arith, more, large))

  -- the result for a rule
  pub results_none : (r : ℕ) → rule_cost least r ≡ None → ReturnsLeast (HasProduction g) cost r (Err NoSentence)
  results_none r e = let none = λ (w : List ℕ) (s : Sentence (HasProduction g) r w). none-some _ (sym e ∙ (below r w s).is) in record {
    least = tt;
    found = λ c l small. absurd (none l.0.0 l.0.1);
    none = ((λ h. none), (λ h. refl));
    too_large = ((λ h. let no : ◌≡◌ {A = Result ℕ CostError} (Err NoSentence) (Err CostTooLarge) = h in absurd (cc)), (λ h. absurd (none h.0.0 h.0.1)));
  }

  pub results_cost : (r c : ℕ) → rule_cost least r ≡ Some c → c ≤ 65535 → ReturnsLeast (HasProduction g) cost r (Ok c)
  results_cost r c e small = let l = least_settled r c e small in record {
    least = l;
    found = λ d k within. ap Ok (least_is_one (HasProduction g) cost r c d l k);
    none = ((λ h. let no : ◌≡◌ {A = Result ℕ CostError} (Ok c) (Err NoSentence) = h in absurd (cc)), (λ h. absurd (h l.0.0 l.0.1)));
    too_large = (
      (λ h. let no : ◌≡◌ {A = Result ℕ CostError} (Ok c) (Err CostTooLarge) = h in absurd (cc)),
      (λ h. let more = h.1 l.0.0 l.0.1 in absurd (omega (arith, more, l.0.2, small))),
    );
  }

  pub results_too_large : (r c : ℕ) → rule_cost least r ≡ Some c → 65535 < c → ReturnsLeast (HasProduction g) cost r (Err CostTooLarge)
  results_too_large r c e large = let too_large = too_large_settled r c e large in record {
    least = tt;
    found = λ d l small. let more = too_large.1 l.0.0 l.0.1 in absurd (omega (arith, more, l.0.2, small));
    none = ((λ h. let no : ◌≡◌ {A = Result ℕ CostError} (Err CostTooLarge) (Err NoSentence) = h in absurd (cc)), (λ h. absurd (h too_large.0.0 too_large.0.1)));
    too_large = ((λ h. too_large), (λ h. refl));
  }

  -- the production that settled a rule derives a sentence of the least cost
  pub least_production : (r c p m : ℕ) → rule_cost least r ≡ Some c → c ≤ 65535 → rule_choice choices r ≡ Some (p, m) → IsLeastProduction g cost r p
  least_production r c p m e small k =
      let (p', m', by, lt) = state.chosen.chosen r c e in
      let pairs : ◌≡◌ {A = ℕ × ℕ} (p', m') (p, m) = sym (same_Some _ _ (sym k ∙ by.choice)) in
      let same : p' ≡ p = ap (λ (x : ℕ × ℕ). x.0) pairs in
      let made = made_sequence (HasProduction g) cost (symbol_cost cost (rule_cost least)) (λ c n. min c 65536 ≡ min n 65536) (cut_over cost (rule_cost least) 65536)
      (λ s. Unit {0}) (λ q d _ f. reached (HasProduction g) cost (symbol_cost cost (rule_cost least)) (λ c n. min c 65536 ≡ min n 65536)
      (cut_over cost (rule_cost least) 65536) choices chosen q d f) (nth_production g p').symbols by.sum.total (λ i d h. tt) by.sum.is in
      let has = at_position g p' (record { rule = r; symbols = (nth_production g p').symbols }) by.index (sym by.owner) refl in
      let derived = derivation_from_trees (HasProduction g) made.tree in
      subst (IsLeastProduction g cost r) same (record {
        index = by.index;
        owner = by.owner;
        word = made.word;
        derived = derived;
        minimal = (
          derives_trans (HasProduction g) (derives_production (HasProduction g) r (nth_production g p').symbols has) derived,
          λ v s. let more = no_less r c e v s in omega (arith, by.sum.cut, made.holds, small, more),
        );
      })
