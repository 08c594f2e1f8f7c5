-- Steps that are put into lists: none, one, and more after them.
use Rattle.std.proofs.Common.{◌≡◌, ℕ, ◌<◌, ◌⊎◌, inl, inr, List, [], ◌∷◌, ◌++◌, Contains, get_or, slice_set, length, refl, sym, ◌∙◌, subst, length-set, get_or-set_same, get_or-set_other}
use Rattle.std.proofs.lemmas.Bool.{cases_eq}
use Rattle.std.proofs.lemmas.List.Elements.{Contains-append_left, Contains-push, Contains-push_cases}
use Rattle.lemmas.proofs.Elements.{get_or-set}
use Rattle.cfgcycles.specs.declared.step_paths.UnitStep.{UnitStep}
use Rattle.cfgcycles.specs.StepLists.{HasStep}
use Rattle.cfgcycles.specs.Inner.Putting.{ArePut}

pub put_none : (Put : ℕ → UnitStep → Type 0) (steps : List (List UnitStep)) → ((a : ℕ) (step : UnitStep) → Put a step → ⊥) → ArePut Put steps steps
put_none Put steps none = record {
  shape = refl;
  steps = λ a step. ((λ h. inl h), (λ h. elim h [ inl i ↦ i | inr i ↦ absurd (none a step i) ]));
}

pub put_as : (Put Put' : ℕ → UnitStep → Type 0) (old new : List (List UnitStep)) → ((a : ℕ) (step : UnitStep) → Put a step → Put' a step)
    → ((a : ℕ) (step : UnitStep) → Put' a step → Put a step) → ArePut Put old new → ArePut Put' old new
put_as Put Put' old new to from w = record {
  shape = w.shape;
  steps = λ a step. (
    (λ h. elim ((w.steps a step).0 h) [ inl i ↦ inl i | inr i ↦ inr (to a step i) ]),
    (λ h. (w.steps a step).1 (elim h [ inl i ↦ inl i | inr i ↦ inr (from a step i) ])),
  );
}

pub put_then : (Put Put' : ℕ → UnitStep → Type 0) (old mid new : List (List UnitStep)) → ArePut Put old mid → ArePut Put' mid new
    → ArePut (λ a step. Put a step ⊎ Put' a step) old new
put_then Put Put' old mid new w v = record {
  shape = v.shape ∙ w.shape;
  steps = λ a step. (
    (λ h. elim ((v.steps a step).0 h) [
      | inl i ↦ elim ((w.steps a step).0 i) [ inl j ↦ inl j | inr j ↦ inr (inl j) ]
      | inr i ↦ inr (inr i)
    ]),
    (λ h. (v.steps a step).1 (elim h [
      | inl i ↦ inl ((w.steps a step).1 (inl i))
      | inr i ↦ elim i [ inl j ↦ inl ((w.steps a step).1 (inr j)) | inr j ↦ inr j ]
    ])),
  );
}

module _ (old : List (List UnitStep)) (rule : ℕ) (step : UnitStep) (within : rule < length old) where
  abbrev list : List UnitStep
  list = get_or old rule [] ++ step ∷ []

  own : get_or (slice_set old rule list) rule [] ≡ list
  own = get_or-set_same old rule list [] within

  at_rule : (s : UnitStep) → Contains list s → HasStep (slice_set old rule list) rule s
  at_rule s h = subst (λ l. Contains l s) (sym own) h

  pub put_one : ArePut (λ a s. (a ≡ rule) × (s ≡ step)) old (slice_set old rule list)
  put_one = record { shape = length-set old rule list; steps = λ a s. (to a s, from a s) }
    where
      to : (a : ℕ) (s : UnitStep) → HasStep (slice_set old rule list) a s → HasStep old a s ⊎ ((a ≡ rule) × (s ≡ step))
      to a s h = elim (get_or-set old rule a list []) [
        | inl e ↦ inl (subst (λ l. Contains l s) e h)
        | inr e ↦ elim (Contains-push_cases (get_or old rule []) step s (subst (λ l. Contains l s) e.1 h)) [
          | inl i ↦ inl (subst (λ n. HasStep old n s) (sym e.0) i)
          | inr i ↦ inr (e.0, sym i)
        ]
      ]

      from : (a : ℕ) (s : UnitStep) → HasStep old a s ⊎ ((a ≡ rule) × (s ≡ step)) → HasStep (slice_set old rule list) a s
      from a s (inl h) = elim (cases_eq a rule) [
        | inl e ↦ subst (λ n. HasStep (slice_set old rule list) n s) (sym e)
            (at_rule s (Contains-append_left (get_or old rule []) (step ∷ []) s (subst (λ n. HasStep old n s) e h)))
        | inr ne ↦ subst (λ l. Contains l s) (sym (get_or-set_other old rule a list [] ne)) h
      ]
      from a s (inr h) = subst (λ n. HasStep (slice_set old rule list) n s) (sym h.0)
          (at_rule s (subst (Contains list) (sym h.1) (Contains-push (get_or old rule []) step)))
