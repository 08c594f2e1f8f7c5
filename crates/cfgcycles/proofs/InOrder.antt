-- Lists of steps stay in order as steps are put at their ends.
use Rattle.std.proofs.Common.{ℕ, suc, inl, inr, List, [], ◌∷◌, ◌++◌, Contains, get_or, slice_set, arith, refl, sym, subst}
use Rattle.std.proofs.lemmas.List.Elements.{Contains-push_cases}
use Rattle.lemmas.proofs.Contained.{contains_none}
use Rattle.lemmas.proofs.Elements.{get_or-set}
use Rattle.cfgcycles.specs.declared.step_paths.UnitStep.{UnitStep}
use Rattle.cfgcycles.specs.StepLists.{AreAllInOrder, AreInOrder, HasStep, IsEarlier}

first_in : (step : UnitStep) (path : List UnitStep) → Contains (step ∷ path) step
first_in step path = (0, omega arith, refl)

later_in : (step other : UnitStep) (path : List UnitStep) → Contains path other → Contains (step ∷ path) other
later_in step other path (k, within, is) = (suc k, omega (arith, within), is)

one_more : (path : List UnitStep) (last : UnitStep) → AreInOrder path
    → ((step : UnitStep) → Contains path step → IsEarlier last.production last.index step) → AreInOrder (path ++ last ∷ [])
one_more [] last order earlier = ((λ other h. absurd (contains_none other h)), tt)
one_more (step ∷ path) last order earlier = (
  λ other h. elim (Contains-push_cases path last other h) [
    | inl i ↦ order.0 other i
    | inr e ↦ subst (λ (t : UnitStep). IsEarlier t.production t.index step) e (earlier step (first_in step path))
  ],
  one_more path last order.1 (λ other h. earlier other (later_in step other path h)),
)

pub put_last : (old : List (List UnitStep)) (rule : ℕ) (step : UnitStep) → AreAllInOrder old
    → ((other : UnitStep) → HasStep old rule other → IsEarlier step.production step.index other)
    → AreAllInOrder (slice_set old rule (get_or old rule [] ++ step ∷ []))
put_last old rule step order earlier a = elim (get_or-set old rule a (get_or old rule [] ++ step ∷ []) []) [
  | inl e ↦ subst AreInOrder (sym e) (order a)
  | inr e ↦ subst AreInOrder (sym e.1) (one_more (get_or old rule []) step (order rule) earlier)
]
