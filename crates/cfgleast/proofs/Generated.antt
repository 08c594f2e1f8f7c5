-- What a generator stores, and what it returns.
use Rattle.std.proofs.Common.{◌≡◌, ◌↔◌, ℕ, ◌<◌, ◌≤◌, ◌⊎◌, inl, inr, List, [], ◌∷◌, length, get_or, map, cond, Option, Some, None, Ok, Err, All, arith, refl, sym, ap, subst, ◌∙◌}
use Rattle.std.proofs.lemmas.Option.{same_Some}
use Rattle.std.specs.Prelude.{IfSome, IsSomeAnd, EachIndex}
use Rattle.std.proofs.lemmas.Bool.{cases_lt, le-leb}
use Rattle.std.proofs.lemmas.Bool.Decides.{leb_tells}
use Rattle.lemmas.proofs.Elements.{within_from_get_or}
use Rattle.cfgindex.specs.declared.idxnewtype.PIdx.{PIdx}
use Rattle.std.proofs.lemmas.List.{get_or_default, get_or_past}
use Rattle.std.proofs.lemmas.List.Elements.{All-from_get_or}
use Rattle.derivation.specs.Grammar.{Sym, Rule, Token, HasProduction}
use Rattle.cfgtables.specs.Openings.{nth_production}
use Rattle.derivation.specs.declared.errors.CostError.{CostError}
use Rattle.derivation.specs.declared.errors.CostError.TheVariants.{NoSentence, CostTooLarge}
use Rattle.derivation.specs.Sums.{sum_of, symbol_cost}
use Rattle.derivation.specs.CostLists.{rule_cost}
use Rattle.derivation.specs.Productive.{Unproductive}
use Rattle.cfgleast.specs.Certificate.{IsCovered, IsReached, IsChosenBelow, IsShown, claim_of, choice_of, rule_choice}
use Rattle.cfgleast.specs.Generator.{CostTables, IsGenerator, ReturnsLeast, IsLeastProduction, IsTooLarge, up_to_limit, where_some, cost_answer, choice_answer, token_cost}
use Rattle.derivation.proofs.Sums.{plus_parts, plus_both}
use Rattle.derivation.proofs.Sequences.{item_shown}
use Rattle.cfgleast.proofs.Gains.{HasCost, all_have_costs, sum_kept}
use Rattle.cfgleast.proofs.Answered.{results_none, results_cost, results_too_large, least_production}

module _ (x : CostTables) (n : ℕ) (is : IsGenerator x n) where
  -- the entry of a rule, as it is read
  pub entry_read : (items : List (Option ℕ)) (r : ℕ) (entry : Option ℕ) → items ≡ x.least → r < x.grammar.rules → entry ≡ get_or items r entry
      → rule_cost x.least r ≡ entry
  entry_read items r entry same within at =
      get_or_default x.least r None entry (subst (λ m. r < m) (sym is.settled.chosen.costs) within)
      ∙ sym (subst (λ l. entry ≡ get_or l r entry) same at)

  pub reads_none : (r : ℕ) → rule_cost x.least r ≡ None → ReturnsLeast (HasProduction x.grammar) (token_cost x) r (Err NoSentence)
  reads_none r e = results_none x.grammar (token_cost x) x.least x.choices n is.settled r e

  pub reads_cost : (r c : ℕ) → rule_cost x.least r ≡ Some c → c ≤ 65535 → ReturnsLeast (HasProduction x.grammar) (token_cost x) r (Ok c)
  reads_cost r c e small = results_cost x.grammar (token_cost x) x.least x.choices n is.settled r c e small

  pub reads_too_large : (r c : ℕ) → rule_cost x.least r ≡ Some c → 65535 < c → ReturnsLeast (HasProduction x.grammar) (token_cost x) r (Err CostTooLarge)
  reads_too_large r c e large = results_too_large x.grammar (token_cost x) x.least x.choices n is.settled r c e large

-- a cost that is returned is that of the table, and at most 65535
pub answered_some : (o : Option ℕ) (c : ℕ) → up_to_limit o ≡ Some c → (o ≡ Some c) × (c ≤ 65535)
answered_some None c e = let no : None ≡ Some c = e in absurd (cc)
answered_some (Some d) c e = elim (leb_tells d 65535) [
  | inl h ↦ let is : d ≡ c = same_Some _ _ (sym (ap (λ b. cond b (Some d) None) h.0) ∙ e) in (ap Some is, omega (arith, is, h.1))
  | inr h ↦ let no : None ≡ Some c = sym (ap (λ b. cond b (Some d) None) h.0) ∙ e in absurd (cc)
]

pub some_answered : (o : Option ℕ) (c : ℕ) → o ≡ Some c → c ≤ 65535 → up_to_limit o ≡ Some c
some_answered o c e small = ap up_to_limit e ∙ ap (λ b. cond b (Some c) None) (le-leb c 65535 small)

-- a sum up to the limit stays, if each cost up to the limit does
sum_within : (f g : Sym → Option ℕ) (limit : ℕ) → ((s : Sym) (d : ℕ) → f s ≡ Some d → d ≤ limit → g s ≡ Some d) → (a : List Sym) (n : ℕ)
    → sum_of f a ≡ Some n → n ≤ limit → sum_of g a ≡ Some n
sum_within f g limit kept [] n e small = e
sum_within f g limit kept (s ∷ a) n e small =
    let p = plus_parts (f s) (sum_of f a) n e in
    let w = p.whole in
    plus_both (g s) (sum_of g a) p.first p.second (kept s p.first p.first_is (omega (arith, w, small)))
    (sum_within f g limit kept a p.second p.second_is (omega (arith, w, small))) ∙ ap Some (sym w)

module _ (x : CostTables) (n : ℕ) (is : IsGenerator x n) where
  -- the choice of a rule whose cost is returned is a production of least cost
  pub choice_read : {S : Type 0} (value : S → ℕ) (r c : ℕ) (entry : Option (PIdx S × ℕ)) → Some c ≡ cost_answer x r → rule_choice x.choices r ≡ choice_of value entry
      → IfSome entry (λ choice. IsLeastProduction x.grammar (token_cost x) r (value choice.0.0))
  choice_read value r c None answer shown = tt
  choice_read value r c (Some choice) answer shown =
      let known = answered_some (rule_cost x.least r) c (sym answer) in
      least_production x.grammar (token_cost x) x.least x.choices n is.settled r c (value choice.0.0) choice.1 known.0 known.1 shown

  -- the entry of a rule in the list of choices
  pub choice_shown : {S : Type 0} (value : S → ℕ) (items : List (Option (PIdx S × ℕ))) (r i : ℕ) (entry : Option (PIdx S × ℕ)) → map (choice_of value) items ≡ x.choices
      → r < x.grammar.rules → i ≡ r → entry ≡ get_or items i entry → rule_choice x.choices r ≡ choice_of value entry
  choice_shown value items r i entry shown within at holds =
      item_shown (choice_of value) items x.choices r entry None shown (subst (λ m. r < m) (sym is.settled.chosen.listed) within)
      (subst (λ m. entry ≡ get_or items m entry) at holds)

  -- a rule whose cost is returned has a choice
  pub choice_none : {S : Type 0} (value : S → ℕ) (r c : ℕ) (entry : Option (PIdx S × ℕ)) → Some c ≡ cost_answer x r → rule_choice x.choices r ≡ choice_of value entry
      → (entry ≡ None) ↔ (Unproductive (HasProduction x.grammar) r ⊎ IsTooLarge (HasProduction x.grammar) (token_cost x) r)
  choice_none value r c entry answer shown =
      let known = answered_some (rule_cost x.least r) c (sym answer) in
      let small = known.1 in
      let (p, m, by, lt) = is.settled.chosen.chosen r c known.0 in
      let least = (reads_cost x n is r c known.0 small).least in (
        (λ e. let no : ◌≡◌ {A = Option (ℕ × ℕ)} None (Some (p, m)) = sym (shown ∙ ap (choice_of value) e) ∙ by.choice in absurd (cc)),
        (λ h. elim h [
          | inl none ↦ absurd (none least.0.0 least.0.1)
          | inr too_large ↦ let more = too_large.1 least.0.0 least.0.1 in absurd (omega (arith, more, least.0.2, small))
        ]),
      )

  module _ (least : List (Option ℕ)) (rules : length least ≡ x.grammar.rules)
      (answered : (r : ℕ) → r < x.grammar.rules → rule_cost least r ≡ cost_answer x r) where
    all_answered : (r : ℕ) → rule_cost least r ≡ cost_answer x r
    all_answered r = elim (cases_lt r x.grammar.rules) [
      | inl within ↦ answered r within
      | inr end ↦ get_or_past least r None (omega (arith, rules, end))
          ∙ sym (ap up_to_limit (get_or_past x.least r None (omega (arith, is.settled.chosen.costs, end))))
    ]

    table_some : (s : Sym) (d : ℕ) → symbol_cost (token_cost x) (rule_cost least) s ≡ Some d → symbol_cost (token_cost x) (rule_cost x.least) s ≡ Some d
    table_some (Token t) d e = e
    table_some (Rule r) d e = (answered_some (rule_cost x.least r) d (sym (all_answered r) ∙ e)).0

    answer_some : (s : Sym) (d : ℕ) → symbol_cost (token_cost x) (rule_cost x.least) s ≡ Some d → d ≤ 65535 → symbol_cost (token_cost x) (rule_cost least) s ≡ Some d
    answer_some (Token t) d e small = e
    answer_some (Rule r) d e small = all_answered r ∙ some_answered (rule_cost x.least r) d e small

    covered_at : (p : ℕ) → p < length x.grammar.productions → IsCovered x.costs least (nth_production x.grammar p)
    covered_at p within = go (sum_of (symbol_cost (token_cost x) (rule_cost least)) (nth_production x.grammar p).symbols) refl
      where
        go : (o : Option ℕ) → sum_of (symbol_cost (token_cost x) (rule_cost least)) (nth_production x.grammar p).symbols ≡ o
            → IfSome o (λ m. (65535 < m) ⊎ IsSomeAnd (rule_cost least (nth_production x.grammar p).rule) (λ c. c ≤ m))
        go None e = tt
        go (Some m) e =
            let (d, set, low) = is.settled.covered p m within (sum_kept (symbol_cost (token_cost x) (rule_cost least)) (symbol_cost (token_cost x) (rule_cost x.least)) table_some (nth_production x.grammar p).symbols m e) in
            elim (cases_lt 65535 m) [
              | inl large ↦ inl large
              | inr small ↦ inr (subst (λ o. IsSomeAnd o (λ c. c ≤ m)) (sym (all_answered (nth_production x.grammar p).rule
                  ∙ some_answered (rule_cost x.least (nth_production x.grammar p).rule) d set (omega (arith, low, small)))) (omega (arith, low, small)))
            ]

    pub results_covered : All (IsCovered x.costs least) x.grammar.productions
    results_covered = All-from_get_or (IsCovered x.costs least) x.grammar.productions (record { rule = 0; symbols = [] }) covered_at

    module _ (choices : List (Option (ℕ × ℕ))) (chosen : (r : ℕ) → r < x.grammar.rules → rule_choice choices r ≡ choice_answer x r) where
      choice_some : (r c : ℕ) → rule_cost least r ≡ Some c → rule_choice choices r ≡ rule_choice x.choices r
      choice_some r c e =
          let within : r < length least = within_from_get_or least r None (λ k. let no : None ≡ Some c = sym k ∙ e in absurd (cc)) in
          chosen r (omega (arith, within, rules)) ∙ ap (λ o. where_some o (rule_choice x.choices r)) (sym (all_answered r) ∙ e)

      below_some : (m : ℕ) (s : Sym) → HasCost (symbol_cost (token_cost x) (rule_cost least)) s → IsChosenBelow x.choices m s → IsChosenBelow choices m s
      below_some m (Token t) h k = tt
      below_some m (Rule r) h k = subst (λ o. IsSomeAnd o (λ choice. choice.1 < m)) (sym (choice_some r h.value h.is)) k

      reached_cost : (r c : ℕ) → rule_cost least r ≡ Some c → IsSomeAnd (rule_choice choices r) (λ choice. IsShown x.grammar x.costs least choices (claim_of r c choice))
      reached_cost r c e =
          let known = answered_some (rule_cost x.least r) c (sym (all_answered r) ∙ e) in
          let small = known.1 in
          let (p, m, by, lt) = is.settled.chosen.chosen r c known.0 in
          let total : by.sum.total ≡ c = omega (arith, by.sum.cut, small) in
          let symbols = (nth_production x.grammar p).symbols in
          let sum = sum_within (symbol_cost (token_cost x) (rule_cost x.least)) (symbol_cost (token_cost x) (rule_cost least)) 65535 answer_some symbols c (by.sum.is ∙ ap Some total) small in
          let costs = all_have_costs (symbol_cost (token_cost x) (rule_cost least)) symbols c sum in
          subst (λ o. IsSomeAnd o (λ choice. IsShown x.grammar x.costs least choices (claim_of r c choice))) (sym (choice_some r c e ∙ by.choice)) (record {
            index = by.index;
            owner = by.owner;
            sum = sum;
            below = λ k d h. below_some m _ (costs k d h) (by.below k d h);
          })

      pub results_reached : EachIndex least (IsReached x.grammar x.costs least choices)
      results_reached r within = go (rule_cost least r) refl
        where
          go : (o : Option ℕ) → rule_cost least r ≡ o → IfSome o (λ c. IsSomeAnd (rule_choice choices r) (λ choice. IsShown x.grammar x.costs least choices (claim_of r c choice)))
          go None e = tt
          go (Some c) e = reached_cost r c e

-- why no cost is returned
pub refused : (P : ℕ → List Sym → Type 0) (cost : ℕ → ℕ) (r : ℕ) (e : CostError) → ReturnsLeast P cost r (Err e) → Unproductive P r ⊎ IsTooLarge P cost r
refused P cost r NoSentence h = inl (h.none.0 refl)
refused P cost r CostTooLarge h = inr (h.too_large.0 refl)
