-- What the certificate of least costs says, read from lists that pass its checks.
use Rattle.std.proofs.Common.{◌≡◌, ℕ, ◌+◌, ◌<◌, ◌≤◌, inl, inr, ◌⊎◌, List, [], ◌∷◌, length, take, Option, Some, None, All, arith, refl, sym, ap, subst, ◌∙◌}
use Rattle.std.proofs.lemmas.Option.{none-some, same_Some}
use Rattle.std.specs.Prelude.{IfSome, IsSomeAnd, MatchOption, EachIndex, slice_index}
use Rattle.std.proofs.lemmas.Bool.{cases_lt}
use Rattle.std.proofs.lemmas.List.{take_all, get_or_past}
use Rattle.lemmas.proofs.Elements.{within_from_get_or}
use Rattle.std.proofs.lemmas.List.Elements.{All-more, All-contains, All-take, All-weaker}
use Rattle.derivation.specs.Grammar.{Sym, Rule, Grammar, IsGrammar, HasProduction}
use Rattle.derivation.specs.Sentence.{Sentence, cost_of, HasSentenceOf}
use Rattle.derivation.specs.Tree.{Yields, opened}
use Rattle.derivation.proofs.Trees.{trees_from_derivation, derivation_from_trees}
use Rattle.derivation.specs.Costs.{Least}
use Rattle.cfgtables.specs.Openings.{nth_production}
use Rattle.cfgtables.proofs.Located.{same_production, at_position}
use Rattle.derivation.specs.Sums.{symbol_cost}
use Rattle.derivation.specs.CostLists.{IsListed, rule_cost}
use Rattle.cfgleast.specs.Certificate.{IsCovered, IsCoveredInRange, IsReached, IsShown, claim_of, rule_choice}
use Rattle.derivation.proofs.Listed.{symbols_listed}
use Rattle.derivation.proofs.Sums.{plus_zero}
use Rattle.cfgleast.proofs.TreeSums.{Choice, reached}
use Rattle.cfgleast.proofs.Bounds.{IsAtMost, Covers, lower_bound, exactly_over}

module _ (g : Grammar) (costs : List ℕ) (least : List (Option ℕ)) where
  -- one more production
  pub covered_more : (n index rule : ℕ) (symbols : List Sym) → n < length g.productions → index ≡ n
      → rule ≡ (nth_production g index).rule → symbols ≡ (nth_production g index).symbols
      → All (IsCoveredInRange costs least) (take n g.productions) → IsCoveredInRange costs least (record { rule = rule; symbols = symbols })
      → All (IsCoveredInRange costs least) (take (n + 1) g.productions)
  covered_more n index rule symbols within at owner holds all here = All-more (IsCoveredInRange costs least) g.productions n _ within all
      (subst (IsCoveredInRange costs least) (same_production _ (nth_production g index) owner holds ∙ ap (nth_production g) at) here)

  -- one of them, as it is read
  pub covered_here : (n rule : ℕ) (symbols : List Sym) → n < length g.productions → rule ≡ (nth_production g n).rule → symbols ≡ (nth_production g n).symbols
      → All (IsCovered costs least) g.productions → IsCovered costs least (record { rule = rule; symbols = symbols })
  covered_here n rule symbols within owner holds all =
      subst (IsCovered costs least) (sym (same_production _ (nth_production g n) owner holds)) (all n (record { rule = 0; symbols = [] }) within)

  module _ (n : ℕ) (past : length g.productions ≤ n) (all : All (IsCoveredInRange costs least) (take n g.productions)) where
    every : All (IsCoveredInRange costs least) g.productions
    every = subst (All (IsCoveredInRange costs least)) (take_all n g.productions past) all

    pub covered_all : All (IsCovered costs least) g.productions
    covered_all = All-weaker (IsCoveredInRange costs least) (IsCovered costs least) (λ p h. h.0) g.productions every

    at : (r : ℕ) (symbols : List Sym) → HasProduction g r symbols → IsCoveredInRange costs least (record { rule = r; symbols = symbols })
    at r symbols has = All-contains (IsCoveredInRange costs least) g.productions _ every has

    covers : Covers (HasProduction g) (slice_index costs) (rule_cost least) 65535
    covers = record {
      covers = λ r n symbols has e within. go r n within
          (subst (λ o. IfSome o (λ n. (65535 < n) ⊎ IsSomeAnd (rule_cost least r) (λ c. c ≤ n))) e (at r symbols has).0);
    }
      where
        some : (o : Option ℕ) (n : ℕ) → IsSomeAnd o (λ c. c ≤ n) → IsAtMost o n
        some None n h = absurd h
        some (Some c) n h = record { value = c; is = refl; within = h }

        go : (r n : ℕ) → n ≤ 65535 → (65535 < n) ⊎ IsSomeAnd (rule_cost least r) (λ c. c ≤ n) → IsAtMost (rule_cost least r) n
        go r n within (inl past) = absurd (omega (arith, within, past))
        go r n within (inr h) = some (rule_cost least r) n h

    in_range : (r : ℕ) (w : List ℕ) → Yields (HasProduction g) (Rule r ∷ []) w → IfSome (rule_cost least r) (λ c. c ≤ 65535)
    in_range r w (opened {symbols = symbols} has h k e) = (at r symbols has).1

    bounded : (r : ℕ) (w : List ℕ) → Yields (HasProduction g) (Rule r ∷ []) w → cost_of (slice_index costs) w ≤ 65535
        → IsAtMost (rule_cost least r) (cost_of (slice_index costs) w)
    bounded r w tree within = subst (λ o. IsAtMost o (cost_of (slice_index costs) w)) (plus_zero (rule_cost least r))
        (lower_bound (HasProduction g) (slice_index costs) (rule_cost least) 65535 covers tree within)

    read : (o : Option ℕ) (n : ℕ) → (n ≤ 65535 → IsAtMost o n) → IfSome o (λ c. c ≤ 65535) → MatchOption o (65535 < n) (λ c. c ≤ n)
    read None n h range = elim (cases_lt 65535 n) [
      | inl past ↦ past
      | inr within ↦ let k = h within in let no : None ≡ Some k.value = k.is in absurd (cc)
    ]
    read (Some c) n h range = elim (cases_lt 65535 n) [
      | inl past ↦ omega (arith, past, range)
      | inr within ↦ let k = h within in let is : c ≡ k.value = same_Some _ _ k.is in omega (arith, is, k.within)
    ]

    -- no sentence costs less than the list says
    pub certified_bound : (r : ℕ) (w : List ℕ) → Sentence (HasProduction g) r w
        → MatchOption (rule_cost least r) (65535 < cost_of (slice_index costs) w) (λ c. c ≤ cost_of (slice_index costs) w)
    certified_bound r w s =
        let tree = trees_from_derivation (HasProduction g) (Rule r ∷ []) w s in
        read (rule_cost least r) (cost_of (slice_index costs) w) (bounded r w tree) (in_range r w tree)

module _ (g : Grammar) (costs : List ℕ) (least : List (Option ℕ)) (choices : List (Option (ℕ × ℕ)))
    (each : EachIndex least (IsReached g costs least choices)) where
  choice_from : (r c : ℕ) (o : Option (ℕ × ℕ)) → rule_choice choices r ≡ o → IsSomeAnd o (λ choice. IsShown g costs least choices (claim_of r c choice))
      → Choice (HasProduction g) (slice_index costs) (symbol_cost (slice_index costs) (rule_cost least)) (λ c n. c ≡ n) choices r c
  choice_from r c None e h = absurd h
  choice_from r c (Some choice) e h = record {
    choice = choice;
    choice_is = e;
    symbols = (nth_production g choice.0).symbols;
    sum = c;
    has = at_position g choice.0 _ h.index (sym h.owner) refl;
    sum_is = h.sum;
    holds = λ n k. k;
    below = h.below;
  }

  chosen : (r c : ℕ) → rule_cost least r ≡ Some c
      → Choice (HasProduction g) (slice_index costs) (symbol_cost (slice_index costs) (rule_cost least)) (λ c n. c ≡ n) choices r c
  chosen r c e = choice_from r c (rule_choice choices r) refl
      (subst (λ o. IfSome o (λ c. IsSomeAnd (rule_choice choices r) (λ choice. IsShown g costs least choices (claim_of r c choice)))) e (each r (within_from_get_or least r None (λ k. none-some _ (sym k ∙ e)))))

  -- each cost of the list is that of a sentence
  pub certified_sentence : (r c : ℕ) → rule_cost least r ≡ Some c → HasSentenceOf (HasProduction g) (slice_index costs) r c
  certified_sentence r c e =
      let made = reached (HasProduction g) (slice_index costs) (symbol_cost (slice_index costs) (rule_cost least)) (λ c n. c ≡ n)
      (exactly_over (slice_index costs) (rule_cost least)) choices chosen r c e in
      (made.word, derivation_from_trees (HasProduction g) made.tree, sym made.holds)

-- a rule's cost and choice, as lists show them, and what shows them
module _ (g : Grammar) (costs : List ℕ) (least : List (Option ℕ)) (choices : List (Option (ℕ × ℕ))) (r c : ℕ) (choice : ℕ × ℕ)
    (cost_is : rule_cost least r ≡ Some c) (choice_is : rule_choice choices r ≡ Some choice) where
  pub shown_from_reached : IsReached g costs least choices r → IsShown g costs least choices (claim_of r c choice)
  shown_from_reached h = subst (λ o. IsSomeAnd o (λ choice. IsShown g costs least choices (claim_of r c choice))) choice_is
      (subst (λ o. IfSome o (λ c. IsSomeAnd (rule_choice choices r) (λ choice. IsShown g costs least choices (claim_of r c choice)))) cost_is h)

  pub reached_from_shown : IsShown g costs least choices (claim_of r c choice) → IsReached g costs least choices r
  reached_from_shown h = subst (λ o. IfSome o (λ c. IsSomeAnd (rule_choice choices r) (λ choice. IsShown g costs least choices (claim_of r c choice)))) (sym cost_is)
      (subst (λ o. IsSomeAnd o (λ choice. IsShown g costs least choices (claim_of r c choice))) (sym choice_is) h)

-- the symbols of a production have entries in lists that are as long as the grammar has rules and tokens
pub production_listed : (g : Grammar) (p rules tokens : ℕ) (symbols : List Sym) → IsGrammar g → p < length g.productions → rules ≡ g.rules → tokens ≡ g.tokens
    → symbols ≡ (nth_production g p).symbols → All (IsListed rules tokens) symbols
production_listed g p rules tokens symbols is within same_rules same_tokens shown = subst (All (IsListed rules tokens)) (sym shown)
    (subst (λ n. All (IsListed n tokens) (nth_production g p).symbols) (sym same_rules)
    (subst (λ n. All (IsListed g.rules n) (nth_production g p).symbols) (sym same_tokens) (symbols_listed g p is within)))

module _ (g : Grammar) (costs : List ℕ) (least : List (Option ℕ)) (choices : List (Option (ℕ × ℕ))) (r : ℕ) where
  -- a rule with no cost needs no choice
  pub reached_none : rule_cost least r ≡ None → IsReached g costs least choices r
  reached_none e = subst (λ o. IfSome o (λ c. IsSomeAnd (rule_choice choices r) (λ choice. IsShown g costs least choices (claim_of r c choice)))) (sym e) tt

  -- a rule with a cost needs one
  pub reached_not : (c : ℕ) → rule_cost least r ≡ Some c → rule_choice choices r ≡ None → IsReached g costs least choices r → ⊥
  reached_not c cost_is choice_is h = subst (λ o. IsSomeAnd o (λ choice. IsShown g costs least choices (claim_of r c choice))) choice_is
      (subst (λ o. IfSome o (λ c. IsSomeAnd (rule_choice choices r) (λ choice. IsShown g costs least choices (claim_of r c choice)))) cost_is h)

-- a cost that is at most 65535, is that of a sentence, and isn't undercut, is the least
pub certified_least : (g : Grammar) (costs : List ℕ) (least : List (Option ℕ)) (choices : List (Option (ℕ × ℕ)))
    → All (IsCovered costs least) g.productions → EachIndex least (IsReached g costs least choices)
    → All (λ o. IfSome o (λ c. c ≤ 65535)) least
    → (r c : ℕ) → rule_cost least r ≡ Some c → Least (HasProduction g) (slice_index costs) r c
certified_least g costs least choices covered each range r c e = (
  certified_sentence g costs least choices each r c e,
  λ w s. subst (λ o. MatchOption o (65535 < cost_of (slice_index costs) w) (λ c. c ≤ cost_of (slice_index costs) w)) e
      (certified_bound g costs least (length g.productions) (omega arith)
      (All-take (IsCoveredInRange costs least) (length g.productions) g.productions (λ k d h. (covered k d h, in_list _))) r w s),
)
  where
    in_list : (q : ℕ) → IfSome (rule_cost least q) (λ c. c ≤ 65535)
    in_list q = elim (cases_lt q (length least)) [
      | inl within ↦ range q None within
      | inr past ↦ subst (λ o. IfSome o (λ c. c ≤ 65535)) (sym (get_or_past least q None past)) tt
    ]
