-- Choices for first sentences, made one by one: a rule's production is chosen when its rules cost nothing or have choices.
use Rattle.std.proofs.Common.{◌≡◌, ℕ, zero, suc, ◌+◌, ◌<◌, ◌≤◌, inl, inr, List, [], ◌∷◌, ◌++◌, slice_set, Option, Some, None, All, Contains, append-nil, arith, refl, sym, ap, subst, ◌∙◌}
use Rattle.std.proofs.lemmas.Option.{same_Some}
use Rattle.std.specs.Prelude.{IfSome, IsSomeAnd, cond, is_some}
use Rattle.std.proofs.lemmas.List.{get_or-set_same, length-set}
use Rattle.std.proofs.lemmas.List.Elements.{All-contains_itself, All-head, All-tail, All-weaker}
use Rattle.std.proofs.lemmas.List.Sums.{count_by-le-length, sum_by-set}
use Rattle.lemmas.proofs.Elements.{get_or-set}
use Rattle.derivation.specs.Grammar.{Sym, Rule, Token}
use Rattle.cfgtables.specs.Openings.{nth_production}
use Rattle.derivation.specs.CostLists.{rule_cost}
use Rattle.cfgleast.specs.Certificate.{rule_choice}
use Rattle.cfgchoices.specs.Choices.{ChoicesGive}
use Rattle.cfgchoices.specs.Choices as gives
use Rattle.cfgchoices.specs.FirstChoices.{IsBelowIfChosen}
use Rattle.cfgchoices.specs.Inner.Candidates.{Choices, Choosing, IsChoice, IsFreeOrChosenBelow, with_choices}
use Rattle.cfgleast.specs.Generator.{CostTables, cost_answer, choice_answer, token_cost, where_some}
use Rattle.cfgchoices.specs.Kinds.{IsOptimal}
use Rattle.cfgchoices.proofs.Choices.{choices_sequence, choices_split}
use Rattle.cfgleast.proofs.Generated.{some_answered}
use Rattle.cfgchoices.proofs.GrowingChoices.{Keeps, keeps_one}
use Rattle.cfgchoices.proofs.Lengths.{IsPaid}
use Rattle.cfgchoices.proofs.Optimal.{CostsNothing, LinksTo, further, in_prefix, others_free}

module _ (x : CostTables) where
  pub few : (l : Choices) (n : ℕ) → Choosing x l n → n ≤ x.grammar.rules
  few l n state = let all = count_by-le-length is_some l in omega (arith, all, state.count, state.listed)

  some_kept : (l l' : Choices) → Keeps l l' → (q m n : ℕ) → m ≤ n → IsSomeAnd (rule_choice l q) (λ choice. choice.1 < m) → IsSomeAnd (rule_choice l' q) (λ choice. choice.1 < n)
  some_kept l l' keeps q m n le h = go (rule_choice l q) refl h
    where
      go : (o : Option (ℕ × ℕ)) → rule_choice l q ≡ o → IsSomeAnd o (λ choice. choice.1 < m) → IsSomeAnd (rule_choice l' q) (λ choice. choice.1 < n)
      go None e h = absurd h
      go (Some choice) e h = subst (λ (o : Option (ℕ × ℕ)). IsSomeAnd o (λ choice. choice.1 < n)) (sym (keeps q choice e)) (omega (arith, h, le))

  pub below_kept : (l l' : Choices) → Keeps l l' → (q m n : ℕ) → m ≤ n → IsFreeOrChosenBelow x l m q → IsFreeOrChosenBelow x l' n q
  below_kept l l' keeps q m n le (inl free) = inl free
  below_kept l l' keeps q m n le (inr some) = inr (some_kept l l' keeps q m n le some)

  -- one more rule has a choice
  module _ (l : Choices) (n r p : ℕ) (state : Choosing x l n) (unset : rule_choice l r ≡ None) (within : r < x.grammar.rules) (optimal : IsOptimal x p)
      (owner : (nth_production x.grammar p).rule ≡ r) (below : (q : ℕ) → Contains (nth_production x.grammar p).symbols (Rule q) → IsFreeOrChosenBelow x l n q) where
    abbrev pub later : Choices
    later = slice_set l r (Some (p, n))

    keeps : Keeps l later
    keeps = keeps_one l r (p, n) unset

    pub chosen_now : rule_choice later r ≡ Some (p, n)
    chosen_now = get_or-set_same l r (Some (p, n)) None (subst (λ m. r < m) (sym state.listed) within)

    pub choosing_more : Choosing x later (n + 1)
    choosing_more = record {
      listed = length-set l r (Some (p, n)) ∙ state.listed;
      count =
          let set = sum_by-set (λ (o : Option (ℕ × ℕ)). cond (is_some o) 1 0) l r (Some (p, n)) None (subst (λ m. r < m) (sym state.listed) within) in
          let none : ◌≡◌ {A = ℕ} (cond (is_some (rule_choice l r)) 1 0) 0 = ap (λ (o : Option (ℕ × ℕ)). cond (is_some o) 1 0) unset in
          omega (arith, set, none, state.count);
      each = λ q p' m e. elim (get_or-set l r q (Some (p, n)) None) [
        | inl same ↦
            let old = state.each q p' m (sym same ∙ e) in (
              record { optimal = old.0.optimal; owner = old.0.owner; below = λ s h. below_kept l later keeps s m m (omega arith) (old.0.below s h) },
              omega (arith, old.1),
            )
        | inr now ↦
            let pairs : ◌≡◌ {A = ℕ × ℕ} (p, n) (p', m) = same_Some _ _ (sym now.1 ∙ e) in
            subst (λ (c : ℕ × ℕ). IsChoice x later q c.0 c.1 × (c.1 < n + 1)) pairs (
              record { optimal = optimal; owner = owner ∙ sym now.0; below = λ s h. below_kept l later keeps s n n (omega arith) (below s h) },
              omega arith,
            )
      ];
    }

  -- the choices give something for symbols whose rules are free or were chosen
  module _ (l : Choices) (n : ℕ) (state : Choosing x l n) where
    pub answer_chosen : (r p m : ℕ) → rule_choice l r ≡ Some (p, m) → IsChoice x l r p m → choice_answer (with_choices x l) r ≡ Some (p, m)
    answer_chosen r p m e c = ap (λ o. where_some o (rule_choice l r)) (subst (λ q. cost_answer x q ≡ Some c.optimal.cost) c.owner c.optimal.rule) ∙ e

    pub paid_chosen : (r p m : ℕ) → IsChoice x l r p m → cost_answer x r ≡ Some 0 → ⊥
    paid_chosen r p m c none =
        let is : c.optimal.cost ≡ 0 = same_Some _ _ (sym (subst (λ q. cost_answer x q ≡ Some c.optimal.cost) c.owner c.optimal.rule) ∙ none) in
        omega (arith, is, c.optimal.positive)

    -- a rule that is free has no choice
    rule_below : (m q : ℕ) → IsFreeOrChosenBelow x l m q → IsBelowIfChosen l m (Rule q)
    rule_below m q (inl free) = go (rule_choice l q) refl
      where
        go : (o : Option (ℕ × ℕ)) → rule_choice l q ≡ o → IfSome (rule_choice l q) (λ choice. choice.1 < m)
        go None e = subst (λ (o : Option (ℕ × ℕ)). IfSome o (λ choice. choice.1 < m)) (sym e) tt
        go (Some (p, j)) e = absurd (paid_chosen q p j (state.each q p j e).0 free)
    rule_below m q (inr some) = go (rule_choice l q) some
      where
        go : (o : Option (ℕ × ℕ)) → IsSomeAnd o (λ choice. choice.1 < m) → IfSome o (λ choice. choice.1 < m)
        go None h = tt
        go (Some choice) h = h

    pub sequence_below : (m : ℕ) (a : List Sym) → ((q : ℕ) → Contains a (Rule q) → IsFreeOrChosenBelow x l m q) → All (IsBelowIfChosen l m) a
    sequence_below m a below = All-weaker (Contains a) (IsBelowIfChosen l m) one a (All-contains_itself a)
      where
        one : (s : Sym) → Contains a s → IsBelowIfChosen l m s
        one (Token t) h = tt
        one (Rule q) h = rule_below m q (below q h)

    rule_gives_below : (k m : ℕ) → m < k → (q : ℕ) → IsFreeOrChosenBelow x l m q → (w : List ℕ) × ChoicesGive (with_choices x l) (Rule q ∷ []) w
    rule_gives_below zero m lt q h = absurd (omega (arith, lt))
    rule_gives_below (suc k) m lt q (inl free) = ([], gives.free free gives.empty)
    rule_gives_below (suc k) m lt q (inr some) = go (rule_gives_below k) (rule_choice l q) refl some
      where
        go : ((j : ℕ) → j < k → (s : ℕ) → IsFreeOrChosenBelow x l j s → (w : List ℕ) × ChoicesGive (with_choices x l) (Rule s ∷ []) w)
            → (o : Option (ℕ × ℕ)) → rule_choice l q ≡ o → IsSomeAnd o (λ choice. choice.1 < m) → (w : List ℕ) × ChoicesGive (with_choices x l) (Rule q ∷ []) w
        go one None e h = absurd h
        go one (Some (p, j)) e h =
            let c = (state.each q p j e).0 in
            let (w, made) = choices_sequence (with_choices x l) (nth_production x.grammar p).symbols (λ s k. one j (omega (arith, h, lt)) s (c.below s k)) in
            (w, gives.chosen (paid_chosen q p j c) (answer_chosen q p j e c) made gives.empty (sym (append-nil w)))

    pub gives_below : (m : ℕ) (a : List Sym) → ((q : ℕ) → Contains a (Rule q) → IsFreeOrChosenBelow x l m q) → (w : List ℕ) × ChoicesGive (with_choices x l) a w
    gives_below m a all = choices_sequence (with_choices x l) a (λ q h. rule_gives_below (suc m) m (omega arith) q (all q h))

  -- the rules in a chain production are free, but for the one that it leads to
  pub target_below : (l : Choices) (p q m : ℕ) → LinksTo x q (nth_production x.grammar p).symbols → IsSomeAnd (rule_choice l q) (λ choice. choice.1 < m)
      → (s : ℕ) → Contains (nth_production x.grammar p).symbols (Rule s) → IsFreeOrChosenBelow x l m s
  target_below l p q m links some s h = elim (others_free x links s h) [
    | inl same ↦ inr (subst (λ r. IsSomeAnd (rule_choice l r) (λ choice. choice.1 < m)) same some)
    | inr free ↦ inl (some_answered (rule_cost x.least s) 0 free (omega arith))
  ]

  -- it gives what the choices give for that rule: the others cost nothing
  module _ (l : Choices) where
    free_first : (s : Sym) (a : List Sym) (w : List ℕ) → CostsNothing x s → IsPaid (token_cost x) s → ChoicesGive (with_choices x l) (s ∷ a) w → ChoicesGive (with_choices x l) a w
    free_first (Token t) a w free some given = let none : token_cost x t ≡ 0 = same_Some _ _ free in absurd (omega (arith, none, some))
    free_first (Rule r) a w free some (gives.free nothing h) = h
    free_first (Rule r) a w free some (gives.chosen paid choice h k f) = absurd (paid (some_answered (rule_cost x.least r) 0 free (omega arith)))

    free_gives : (a : List Sym) (w : List ℕ) → All (CostsNothing x) a → All (IsPaid (token_cost x)) a → ChoicesGive (with_choices x l) a w → w ≡ []
    free_gives [] _ free all gives.empty = refl
    free_gives (s ∷ a) w free all given = free_gives a w (All-tail (CostsNothing x) s a free) (All-tail (IsPaid (token_cost x)) s a all)
        (free_first s a w (All-head (CostsNothing x) s a free) (All-head (IsPaid (token_cost x)) s a all) given)

    pub target_gives : (q : ℕ) {a : List Sym} (w : List ℕ) → LinksTo x q a → All (IsPaid (token_cost x)) a → ChoicesGive (with_choices x l) a w → ChoicesGive (with_choices x l) (Rule q ∷ []) w
    target_gives q w (in_prefix {a = a} free) all given =
        let parts = choices_split (with_choices x l) q a w given in
        let none = free_gives a parts.suffix free (All-tail (IsPaid (token_cost x)) (Rule q) a all) parts.second in
        subst (ChoicesGive (with_choices x l) (Rule q ∷ [])) (sym (parts.whole ∙ ap (λ b. parts.prefix ++ b) none ∙ append-nil parts.prefix)) parts.first
    target_gives q w (further {s = s} {a = a} free chains) all given = target_gives q w chains (All-tail (IsPaid (token_cost x)) s a all)
        (free_first s a w free (All-head (IsPaid (token_cost x)) s a all) given)
