-- What steps find: nothing, one rule, and what other steps find after that.
use Rattle.std.proofs.Common.{◌≡◌, ℕ, ◌+◌, ◌<◌, ◌⊎◌, inl, inr, List, [], ◌∷◌, ◌++◌, Option, Some, None, true, false, cond, is_none, is_some, Contains, length, slice_set, take, get_or, arith, refl, sym, ap, ◌∙◌, subst, length-set, get_or-set_same, get_or-set_other}
use Rattle.std.proofs.lemmas.Bool.{cases_eq}
use Rattle.std.proofs.lemmas.List.{length_push, take_more}
use Rattle.std.proofs.lemmas.List.Elements.{Contains-append_left, Contains-push, Contains-push_cases}
use Rattle.std.proofs.lemmas.List.Sums.{sum_by-set}
use Rattle.lemmas.proofs.Elements.{get_or-set}
use Rattle.cfgcycles.specs.declared.shortest.Found.{Found}
use Rattle.cfgcycles.specs.declared.step_paths.UnitStep.{UnitStep}
use Rattle.cfgcycles.specs.Inner.Layers.{Finds, IsFound, noted, left}

module _ (n : ℕ) where
  pub finds_nothing : (Taken : ℕ → UnitStep → Type 0) (table : List (Option Found)) (next : List ℕ) → ((a : ℕ) (step : UnitStep) → Taken a step → ⊥)
      → Finds n Taken table next table next
  finds_nothing Taken table next none = record {
    shape = refl;
    kept = λ rule f e. e;
    fresh = λ rule f e. inl e;
    all = λ a step h. absurd (none a step h);
    waits = λ rule h. inl h;
    still = λ rule h. h;
    once = refl;
  }

  pub finds_as : (Taken Taken' : ℕ → UnitStep → Type 0) (old : List (Option Found)) (before : List ℕ) (new : List (Option Found)) (after : List ℕ)
      → ((a : ℕ) (step : UnitStep) → Taken a step → Taken' a step) → ((a : ℕ) (step : UnitStep) → Taken' a step → Taken a step)
      → Finds n Taken old before new after → Finds n Taken' old before new after
  finds_as Taken Taken' old before new after to from w = record {
    shape = w.shape;
    kept = w.kept;
    fresh = λ rule f e. elim (w.fresh rule f e) [ inl h ↦ inl h | inr h ↦ inr (to f.from f.step h.0, h.1, h.2, h.3) ];
    all = λ a step h. w.all a step (from a step h);
    waits = w.waits;
    still = w.still;
    once = w.once;
  }

  pub finds_then : (Taken Taken' : ℕ → UnitStep → Type 0) (old : List (Option Found)) (before : List ℕ) (mid : List (Option Found)) (between : List ℕ)
      (new : List (Option Found)) (after : List ℕ) → Finds n Taken old before mid between → Finds n Taken' mid between new after
      → Finds n (λ a step. Taken a step ⊎ Taken' a step) old before new after
  finds_then Taken Taken' old before mid between new after w v = record {
    shape = v.shape ∙ w.shape;
    kept = λ rule f e. v.kept rule f (w.kept rule f e);
    fresh = λ rule f e. elim (v.fresh rule f e) [
      | inl e ↦ elim (w.fresh rule f e) [
        | inl e ↦ inl e
        | inr h ↦ inr (inl h.0, h.1, h.2, v.still rule h.3)
      ]
      | inr h ↦ inr (inr h.0, h.1, h.2, h.3)
    ];
    all = λ a step h. elim h [
      | inl t ↦ let f = w.all a step t in (f.0, v.kept step.rule f.0 f.1)
      | inr t ↦ v.all a step t
    ];
    waits = λ rule h. elim (v.waits rule h) [
      | inl h ↦ elim (w.waits rule h) [
        | inl h ↦ inl h
        | inr f ↦ inr (record { found = f.found; is = v.kept rule f.found f.is; long = f.long })
      ]
      | inr f ↦ inr f
    ];
    still = λ rule h. v.still rule (w.still rule h);
    once = v.once ∙ w.once;
  }

  module _ (table : List (Option Found)) (next : List ℕ) (from : ℕ) (step : UnitStep) where
    -- its rule was found before
    pub finds_known : is_some (noted table step.rule) ≡ true → Finds n (λ a s. (a ≡ from) × (s ≡ step)) table next table next
    finds_known some = record {
      shape = refl;
      kept = λ rule f e. e;
      fresh = λ rule f e. inl e;
      all = λ a s h. subst (λ (s : UnitStep). (found : Found) × (noted table s.rule ≡ Some found)) (sym h.1) (known (noted table step.rule) some);
      waits = λ rule h. inl h;
      still = λ rule h. h;
      once = refl;
    }
      where
        known : (o : Option Found) → is_some o ≡ true → (found : Found) × (o ≡ Some found)
        known (Some f) e = (f, refl)
        known None e = absurd (cc)

    -- its rule is found now
    pub finds_new : step.rule < length table → is_some (noted table step.rule) ≡ false
        → Finds n (λ a s. (a ≡ from) × (s ≡ step)) table next
        (slice_set table step.rule (Some (record { from = from; step = step; length = n }))) (next ++ step.rule ∷ [])
    finds_new within none = record {
      shape = length-set table step.rule _;
      kept = kept;
      fresh = λ rule f e. elim (get_or-set table step.rule rule (Some it) None) [
        | inl same ↦ inl (sym same ∙ e)
        | inr put ↦ inr (is rule f put.0 (sym put.1 ∙ e))
      ];
      all = λ a s h. subst (λ (s : UnitStep). (found : Found) × (noted new s.rule ≡ Some found)) (sym h.1) (it, own);
      waits = λ rule h. elim (Contains-push_cases next step.rule rule h) [
        | inl h ↦ inl h
        | inr same ↦ inr (subst (λ r. IsFound new r n) same (record { found = it; is = own; long = refl }))
      ];
      still = λ rule h. Contains-append_left next (step.rule ∷ []) rule h;
      once = counted;
    }
      where
        it : Found
        it = record { from = from; step = step; length = n }

        new : List (Option Found)
        new = slice_set table step.rule (Some it)

        own : noted new step.rule ≡ Some it
        own = get_or-set_same table step.rule (Some it) None within

        kept : (rule : ℕ) (f : Found) → noted table rule ≡ Some f → noted new rule ≡ Some f
        kept rule f e = elim (cases_eq rule step.rule) [
          | inl same ↦
              let some : is_some (noted table step.rule) ≡ true = ap is_some (sym (ap (noted table) same) ∙ e) in
              absurd (cc)
          | inr other ↦ get_or-set_other table step.rule rule (Some it) None other ∙ e
        ]

        is : (rule : ℕ) (f : Found) → rule ≡ step.rule → Some it ≡ Some f
            → ((f.from ≡ from) × (f.step ≡ step)) × (f.step.rule ≡ rule) × (f.length ≡ n) × Contains (next ++ step.rule ∷ []) rule
        is rule f same e =
            let f-is : f ≡ it = cc in (
              (ap (λ (f : Found). f.from) f-is, ap (λ (f : Found). f.step) f-is),
              ap (λ (f : Found). f.step.rule) f-is ∙ sym same,
              ap (λ (f : Found). f.length) f-is,
              subst (Contains (next ++ step.rule ∷ [])) (sym same) (Contains-push next step.rule),
            )

        missing : (o : Option Found) → is_some o ≡ false → ◌≡◌ {A = ℕ} (cond (is_none o) 1 0) 1
        missing None e = refl
        missing (Some f) e = absurd (cc)

        counted : left new + length (next ++ step.rule ∷ []) ≡ left table + length next
        counted =
            let e = sum_by-set (λ (o : Option Found). cond (is_none o) 1 0) table step.rule (Some it) None within in
            let z : ◌≡◌ {A = ℕ} (cond (is_none (noted table step.rule)) 1 0) 1 = missing (noted table step.rule) none in
            omega (arith, e, z, length_push next step.rule)

-- the steps of one rule, one by one
module _ (n from : ℕ) (path : List UnitStep) where
  abbrev pub FindsPrefix : ℕ → List (Option Found) → List ℕ → List (Option Found) → List ℕ → Type 0
  FindsPrefix i = Finds n (λ a step. (a ≡ from) × Contains (take i path) step)

  pub finds_more : (i : ℕ) (step : UnitStep) (old : List (Option Found)) (before : List ℕ) (mid : List (Option Found)) (between : List ℕ)
      (new : List (Option Found)) (after : List ℕ) → i < length path → get_or path i step ≡ step → FindsPrefix i old before mid between
      → Finds n (λ a s. (a ≡ from) × (s ≡ step)) mid between new after → FindsPrefix (i + 1) old before new after
  finds_more i step old before mid between new after lt at w v =
      let more : take (i + 1) path ≡ take i path ++ step ∷ [] = take_more path i step lt ∙ ap (λ s. take i path ++ s ∷ []) at in
      finds_as n _ _ old before new after
      (λ a s h. elim h [
        | inl t ↦ (t.0, subst (λ l. Contains l s) (sym more) (Contains-append_left (take i path) (step ∷ []) s t.1))
        | inr t ↦ (t.0, subst (λ l. Contains l s) (sym more) (subst (Contains (take i path ++ step ∷ [])) (sym t.1) (Contains-push (take i path) step)))
      ])
      (λ a s h. elim (Contains-push_cases (take i path) step s (subst (λ l. Contains l s) more h.1)) [ inl k ↦ inl (h.0, k) | inr same ↦ inr (h.0, sym same) ])
      (finds_then n _ _ old before mid between new after w v)

-- the steps of a layer, rule by rule
module _ (n : ℕ) (Has : ℕ → UnitStep → Type 0) (layer : List ℕ) where
  abbrev pub FindsLayer : ℕ → List (Option Found) → List ℕ → List (Option Found) → List ℕ → Type 0
  FindsLayer i = Finds n (λ a step. Contains (take i layer) a × Has a step)

  pub finds_next : (i from : ℕ) (old : List (Option Found)) (before : List ℕ) (mid : List (Option Found)) (between : List ℕ)
      (new : List (Option Found)) (after : List ℕ) → i < length layer → get_or layer i from ≡ from → FindsLayer i old before mid between
      → Finds n (λ a step. (a ≡ from) × Has a step) mid between new after → FindsLayer (i + 1) old before new after
  finds_next i from old before mid between new after lt at w v =
      let more : take (i + 1) layer ≡ take i layer ++ from ∷ [] = take_more layer i from lt ∙ ap (λ a. take i layer ++ a ∷ []) at in
      finds_as n _ _ old before new after
      (λ a s h. elim h [
        | inl t ↦ (subst (λ l. Contains l a) (sym more) (Contains-append_left (take i layer) (from ∷ []) a t.0), t.1)
        | inr t ↦ (subst (λ l. Contains l a) (sym more) (subst (Contains (take i layer ++ from ∷ [])) (sym t.0) (Contains-push (take i layer) from)), t.1)
      ])
      (λ a s h. elim (Contains-push_cases (take i layer) from a (subst (λ l. Contains l a) more h.0)) [ inl k ↦ inl (k, h.1) | inr same ↦ inr (sym same, h.1) ])
      (finds_then n _ _ old before mid between new after w v)
