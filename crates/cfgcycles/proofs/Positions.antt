-- The steps by one production, index by index.
use Rattle.std.proofs.Common.{◌≡◌, ℕ, ◌+◌, ◌<◌, ◌≤◌, ◌⊎◌, ◌↔◌, inl, inr, List, [], Some, Bool, true, Contains, replicate, slice_get, take, drop, length, get_or, arith, refl, sym, ap, ◌∙◌, subst}
use Rattle.std.proofs.lemmas.Bool.{cases_lt}
use Rattle.std.proofs.lemmas.List.{length-replicate}
use Rattle.std.proofs.lemmas.Option.{get_or_from_slice_get, slice_get-get_or, slice_get_within}
use Rattle.derivation.specs.Grammar.{Sym, Rule, Token, Grammar, HasProduction, IsGrammar, IsSymbolOf}
use Rattle.derivation.specs.Derivation.{Derives}
use Rattle.cfgtables.specs.Openings.{nth_production}
use Rattle.cfganalysis.specs.Firsts.{AreFirsts, FirstSets}
use Rattle.cfgcycles.specs.declared.step_paths.UnitStep.{UnitStep}
use Rattle.lemmas.proofs.Contained.{contains_none}
use Rattle.lemmas.proofs.Elements.{get_or-replicate_default}
use Rattle.cfgcycles.specs.StepLists.{AreAllInOrder, HasStep}
use Rattle.cfgcycles.specs.UnitSteps.{AreSteps, IsStep}
use Rattle.cfgcycles.specs.Inner.Putting.{AreNullableBetween, ArePut}
use Rattle.cfgcycles.proofs.Putting.{put_as, put_none, put_then}
use Rattle.cfgcycles.proofs.Nullable.{back_empty, prefix_empty}

-- the steps by a production, at its first indices
abbrev pub IsBefore : Grammar → ℕ → ℕ → ℕ → UnitStep → Type 0
IsBefore g p i a step = IsStep g a step × (step.production ≡ p) × (step.index < i)

module _ (g : Grammar) (p : ℕ) where
  -- the step is by this production, at this index
  pub record IsAt (i a q : ℕ) : Type 0 where
    pub owner : (nth_production g p).rule ≡ a
    pub holds : slice_get (nth_production g p).symbols i ≡ Some (Rule q)
    pub prefix : Derives (HasProduction g) (take i (nth_production g p).symbols) []
    pub back : Derives (HasProduction g) (drop (i + 1) (nth_production g p).symbols) []

at_its_production : (g : Grammar) (a : ℕ) (step : UnitStep) → IsStep g a step → IsAt g step.production step.index a step.rule
at_its_production g a step h = record { owner = h.owner; holds = h.holds; prefix = h.prefix; back = h.back }

module _ (g : Grammar) (x : FirstSets) (are : AreFirsts g x) (p : ℕ) (there : p < length g.productions) where
  abbrev symbols : List Sym
  symbols = (nth_production g p).symbols

  pub step_at : (i a : ℕ) (step : UnitStep) → IsStep g a step → step.production ≡ p → step.index ≡ i → IsAt g p i a step.rule
  step_at i a step h by here = subst (λ k. IsAt g p k a step.rule) here (subst (λ k. IsAt g k step.index a step.rule) by (at_its_production g a step h))

  pub at_step : (i a : ℕ) (step : UnitStep) → step.production ≡ p → step.index ≡ i → IsAt g p i a step.rule → IsStep g a step
  at_step i a step by here h =
      let is : step ≡ record { rule = step.rule; production = p; index = i } = λ k. record { rule = step.rule; production = by k; index = here k } in
      subst (IsStep g a) (sym is) (record { there = there; owner = h.owner; holds = h.holds; prefix = h.prefix; back = h.back })

  module _ (i : ℕ) (within : i < length symbols) (prefix : Bool) (after : ℕ) (at : (prefix ≡ true) ↔ AreNullableBetween x symbols 0 i)
      (from : (index : ℕ) → (after ≤ index) ↔ AreNullableBetween x symbols index (length symbols)) where
    -- whether all symbols around the index are nullable
    around : (a q : ℕ) → IsAt g p i a q → (prefix ≡ true) × (after ≤ i + 1)
    around a q h = (
      at.1 ((prefix_empty g x are symbols i (omega (arith, within))).0 h.prefix),
      (from (i + 1)).1 ((back_empty g x are symbols (i + 1)).0 h.back),
    )

    pub position_taken : prefix ≡ true → after ≤ i + 1 → (old mid new : List (List UnitStep)) → ArePut (IsBefore g p i) old mid
        → ArePut (λ a step. (a ≡ (nth_production g p).rule) × (Rule step.rule ≡ get_or symbols i (Token 0)) × (step.production ≡ p) × (step.index ≡ i)) mid new
        → ArePut (IsBefore g p (i + 1)) old new
    position_taken is_prefix is_back old mid new w v = put_as _ _ old new to back (put_then _ _ old mid new w v)
      where
        here : (a : ℕ) (step : UnitStep) → (a ≡ (nth_production g p).rule) × (Rule step.rule ≡ get_or symbols i (Token 0)) × (step.production ≡ p) × (step.index ≡ i)
            → IsBefore g p (i + 1) a step
        here a step h = (
          at_step i a step h.2 h.3 (record {
            owner = sym h.0;
            holds = slice_get-get_or symbols i (Token 0) within ∙ ap Some (sym h.1);
            prefix = (prefix_empty g x are symbols i (omega (arith, within))).1 (at.0 is_prefix);
            back = (back_empty g x are symbols (i + 1)).1 ((from (i + 1)).0 is_back);
          }),
          h.2,
          omega (arith, h.3),
        )

        to : (a : ℕ) (step : UnitStep) → IsBefore g p i a step ⊎ ((a ≡ (nth_production g p).rule) × (Rule step.rule ≡ get_or symbols i (Token 0)) × (step.production ≡ p) × (step.index ≡ i))
            → IsBefore g p (i + 1) a step
        to a step (inl h) = (h.0, h.1, omega (arith, h.2))
        to a step (inr h) = here a step h

        back : (a : ℕ) (step : UnitStep) → IsBefore g p (i + 1) a step
            → IsBefore g p i a step ⊎ ((a ≡ (nth_production g p).rule) × (Rule step.rule ≡ get_or symbols i (Token 0)) × (step.production ≡ p) × (step.index ≡ i))
        back a step h = elim (cases_lt step.index i) [
          | inl lt ↦ inl (h.0, h.1, lt)
          | inr ge ↦
              let same : step.index ≡ i = omega (arith, ge, h.2) in
              let k = step_at i a step h.0 h.1 same in
              inr (sym k.owner, sym (get_or_from_slice_get symbols i (Rule step.rule) (Token 0) k.holds), h.1, same)
        ]

    pub position_left : ((prefix ≡ true) × (after ≤ i + 1) → ⊥) → (old mid : List (List UnitStep)) → ArePut (IsBefore g p i) old mid → ArePut (IsBefore g p (i + 1)) old mid
    position_left not old mid w = put_as _ _ old mid
        (λ a step h. (h.0, h.1, omega (arith, h.2)))
        (λ a step h. elim (cases_lt step.index i) [
          | inl lt ↦ (h.0, h.1, lt)
          | inr ge ↦ let same : step.index ≡ i = omega (arith, ge, h.2) in absurd (not (around a step.rule (step_at i a step h.0 h.1 same)))
        ])
        w

  -- the same for the symbols and the rule that the code has
  module _ (shown : List Sym) (same : shown ≡ symbols) (rule : ℕ) (owner : rule ≡ (nth_production g p).rule) (i : ℕ) (within : i < length shown)
      (prefix : Bool) (after : ℕ) (at : (prefix ≡ true) ↔ AreNullableBetween x shown 0 i)
      (from : (index : ℕ) → (after ≤ index) ↔ AreNullableBetween x shown index (length shown)) where
    within_symbols : i < length symbols
    within_symbols = subst (λ l. i < length l) same within

    at_symbols : (prefix ≡ true) ↔ AreNullableBetween x symbols 0 i
    at_symbols = subst (λ l. (prefix ≡ true) ↔ AreNullableBetween x l 0 i) same at

    from_symbols : (index : ℕ) → (after ≤ index) ↔ AreNullableBetween x symbols index (length symbols)
    from_symbols = subst (λ l. (index : ℕ) → (after ≤ index) ↔ AreNullableBetween x l index (length l)) same from

    pub shown_taken : (symbol : Sym) → get_or shown i (Token 0) ≡ symbol → prefix ≡ true → after ≤ i + 1 → (old mid new : List (List UnitStep))
        → ArePut (IsBefore g p i) old mid
        → ArePut (λ a step. (a ≡ rule) × (Rule step.rule ≡ symbol) × (step.production ≡ p) × (step.index ≡ i)) mid new → ArePut (IsBefore g p (i + 1)) old new
    shown_taken symbol is is_prefix is_back old mid new w v =
        let whole : get_or symbols i (Token 0) ≡ symbol = sym (ap (λ l. get_or l i (Token 0)) same) ∙ is in
        position_taken i within_symbols prefix after at_symbols from_symbols is_prefix is_back old mid new w
        (put_as _ _ mid new (λ a step h. (h.0 ∙ owner, h.1 ∙ sym whole, h.2, h.3)) (λ a step h. (h.0 ∙ sym owner, h.1 ∙ whole, h.2, h.3)) v)

    pub shown_left : ((prefix ≡ true) × (after ≤ i + 1) → ⊥) → (old mid : List (List UnitStep)) → ArePut (IsBefore g p i) old mid → ArePut (IsBefore g p (i + 1)) old mid
    shown_left not old mid w = position_left i within_symbols prefix after at_symbols from_symbols not old mid w

  -- and after the last index
  pub all_positions : (i : ℕ) → length symbols ≤ i → (old new : List (List UnitStep)) → ArePut (IsBefore g p i) old new
      → ArePut (λ a step. IsStep g a step × (step.production ≡ p)) old new
  all_positions i end old new w = put_as _ _ old new (λ a step h. (h.0, h.1))
      (λ a step h. let k = step_at step.index a step h.0 h.1 refl in
      let inside = slice_get_within symbols step.index (Rule step.rule) k.holds in
      (h.0, h.1, omega (arith, inside, end)))
      w

pub no_position : (g : Grammar) (p : ℕ) (steps : List (List UnitStep)) → ArePut (IsBefore g p 0) steps steps
no_position g p steps = put_none _ steps (λ a step h. omega (arith, h.2))

-- the steps by the first productions, and by one more
pub more_steps : (g : Grammar) (p : ℕ) (old mid new : List (List UnitStep)) → ArePut (λ a step. IsStep g a step × (step.production < p)) old mid
    → ArePut (λ a step. IsStep g a step × (step.production ≡ p)) mid new → ArePut (λ a step. IsStep g a step × (step.production < p + 1)) old new
more_steps g p old mid new w v = put_as _ _ old new
    (λ a step h. elim h [ inl h ↦ (h.0, omega (arith, h.1)) | inr h ↦ (h.0, omega (arith, h.1)) ])
    (λ a step h. elim (cases_lt step.production p) [
      | inl lt ↦ inl (h.0, lt)
      | inr ge ↦ inr (h.0, omega (arith, ge, h.1))
    ])
    (put_then _ _ old mid new w v)

pub earlier : (g : Grammar) (rules p : ℕ) (steps : List (List UnitStep)) → ArePut (λ a step. IsStep g a step × (step.production < p)) (replicate rules []) steps
    → (a : ℕ) (step : UnitStep) → HasStep steps a step → step.production < p
earlier g rules p steps w a step h = elim ((w.steps a step).0 h) [
  | inl none ↦ absurd (contains_none step (subst (λ l. Contains l step) (get_or-replicate_default rules a []) none))
  | inr k ↦ k.1
]

-- and by all of them
pub all_steps : (g : Grammar) → IsGrammar g → (p : ℕ) → length g.productions ≤ p → (steps : List (List UnitStep))
    → ArePut (λ a step. IsStep g a step × (step.production < p)) (replicate g.rules []) steps → AreAllInOrder steps → AreSteps g steps
all_steps g is p end steps w order = record {
  order = order;
  rules = long;
  within = λ a step h. subst (λ n. step.rule < n) (sym long) (within a step (to a step h));
  all = λ a step. (to a step, (λ h. let there = h.there in (w.steps a step).1 (inr (h, omega (arith, there, end)))));
}
  where
    long : length steps ≡ g.rules
    long = w.shape ∙ length-replicate g.rules []

    to : (a : ℕ) (step : UnitStep) → HasStep steps a step → IsStep g a step
    to a step h = elim ((w.steps a step).0 h) [
      | inl none ↦ absurd (contains_none step (subst (λ l. Contains l step) (get_or-replicate_default g.rules a []) none))
      | inr k ↦ k.0
    ]

    within : (a : ℕ) (step : UnitStep) → IsStep g a step → step.rule < g.rules
    within a step h =
        let whole = (nth_production g step.production).symbols in
        let at = is.symbols step.production (record { rule = 0; symbols = [] }) h.there step.index (Token 0) (slice_get_within whole step.index _ h.holds) in
        subst (IsSymbolOf g) (get_or_from_slice_get whole step.index (Rule step.rule) (Token 0) h.holds) at
