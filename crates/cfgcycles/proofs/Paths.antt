-- Paths of unit steps are derivations of a single rule, and cycles are derivations of a rule from itself.
use Rattle.std.proofs.Common.{◌≡◌, ℕ, ◌+◌, ◌<◌, List, [], ◌∷◌, ◌++◌, Some, Contains, slice_get, length, take, drop, arith, refl, sym, ap, ◌∙◌, subst, append_assoc}
use Rattle.std.proofs.Math.Seq.{take-append_seam}
use Rattle.std.proofs.lemmas.List.{drop_more, get_or_default, length_push, take-append-drop}
use Rattle.std.proofs.lemmas.List.Prefix.{front_rest}
use Rattle.std.proofs.lemmas.Option.{get_or_from_slice_get, slice_get_within}
use Rattle.std.proofs.lemmas.List.Elements.{Contains-get_or}
use Rattle.derivation.specs.Grammar.{Sym, Rule, Grammar, Production, HasProduction}
use Rattle.derivation.specs.Derivation.{Derives}
use Rattle.cfgtables.specs.Openings.{nth_production}
use Rattle.cfgcycles.specs.CyclicGroups.{LeadsTo}
use Rattle.derivation.specs.UnitPaths.{UnitPath, DerivesRule, IsCyclic, UnitRefers, one, more}
use Rattle.cfgcycles.specs.declared.step_paths.UnitStep.{UnitStep}
use Rattle.cfgcycles.specs.StepPaths.{IsCycle, Leads}
use Rattle.cfgcycles.specs.UnitSteps.{IsStep}
use Rattle.derivation.proofs.UnitPaths.{unit_along, path_of_units}

-- what is around an index
around_position : (xs : List Sym) (k : ℕ) (x : Sym) → slice_get xs k ≡ Some x → xs ≡ take k xs ++ (x ∷ drop (k + 1) xs)
around_position xs k x at =
    sym (take-append-drop k xs) ∙ ap (λ l. take k xs ++ l) (drop_more xs k x (slice_get_within xs k x at)
    ∙ ap (λ y. y ∷ drop (k + 1) xs) (get_or_from_slice_get xs k x x at))

at_middle : (prefix : List Sym) (x : Sym) (back : List Sym) → slice_get (prefix ++ (x ∷ back)) (length prefix) ≡ Some x
at_middle [] x back = refl
at_middle (y ∷ prefix) x back = at_middle prefix x back

drop_middle : (prefix : List Sym) (x : Sym) (back : List Sym) → drop (length prefix + 1) (prefix ++ (x ∷ back)) ≡ back
drop_middle prefix x back =
    ap (λ n. drop n (prefix ++ (x ∷ back))) (sym (length_push prefix x))
    ∙ front_rest (prefix ++ (x ∷ back)) (prefix ++ x ∷ []) back (sym (append_assoc prefix (x ∷ []) back))

module _ (g : Grammar) where
  step_unit : (a : ℕ) (step : UnitStep) → IsStep g a step → UnitRefers (HasProduction g) a step.rule
  step_unit a step h =
      let symbols = (nth_production g step.production).symbols in
      let is : nth_production g step.production ≡ record { rule = a; symbols = symbols } = λ i. record { rule = h.owner i; symbols = symbols } in
      record {
        before = take step.index symbols;
        after = drop (step.index + 1) symbols;
        has = subst (λ l. HasProduction g a l) (around_position symbols step.index (Rule step.rule) h.holds)
            (subst (λ (p : Production). Contains g.productions p) is (Contains-get_or g.productions step.production _ h.there));
        prefix = h.prefix;
        back = h.back;
      }

  -- a step to the rule
  record StepTo (a b : ℕ) : Type 0 where
    step : UnitStep
    has : IsStep g a step
    to : step.rule ≡ b

  unit_step : (a b : ℕ) → UnitRefers (HasProduction g) a b → StepTo a b
  unit_step a b h =
      let whole = h.before ++ (Rule b ∷ h.after) in
      let at : nth_production g h.has.0 ≡ record { rule = a; symbols = whole } = get_or_default g.productions h.has.0 _ _ h.has.1 ∙ h.has.2 in
      let symbols : (nth_production g h.has.0).symbols ≡ whole = ap (λ (p : Production). p.symbols) at in
      record {
        step = record { rule = b; production = h.has.0; index = length h.before };
        has = record {
          there = h.has.1;
          owner = ap (λ (p : Production). p.rule) at;
          holds = ap (λ l. slice_get l (length h.before)) symbols ∙ at_middle h.before (Rule b) h.after;
          prefix = subst (λ l. Derives (HasProduction g) l []) (sym (ap (take (length h.before)) symbols ∙ take-append_seam h.before (Rule b ∷ h.after))) h.prefix;
          back = subst (λ l. Derives (HasProduction g) l []) (sym (ap (drop (length h.before + 1)) symbols ∙ drop_middle h.before (Rule b) h.after)) h.back;
        };
        to = refl;
      }

  path_of_steps : (a : ℕ) (step : UnitStep) (path : List UnitStep) (b : ℕ) → Leads (IsStep g) a (step ∷ path) b → UnitPath (HasProduction g) a b
  path_of_steps a step [] b h = one (subst (λ n. UnitRefers (HasProduction g) a n) h.1 (step_unit a step h.0))
  path_of_steps a step (next ∷ path) b h = more (step_unit a step h.0) (path_of_steps step.rule next path b h.1)

  steps_of_path : {a b : ℕ} → UnitPath (HasProduction g) a b → LeadsTo (IsStep g) a b
  steps_of_path {a = a} {b = b} (one h) = let s = unit_step a b h in
      record { path = s.step ∷ []; some = omega arith; leads = (s.has, s.to) }
  steps_of_path {a = a} (more {b = b} {c = c} h p) =
      let s = unit_step a b h in
      let r = steps_of_path p in
      record { path = s.step ∷ r.path; some = omega arith; leads = (s.has, subst (λ n. Leads (IsStep g) n r.path c) (sym s.to) r.leads) }

  pub path_of_derivation : (a b : ℕ) → DerivesRule (HasProduction g) a b → LeadsTo (IsStep g) a b
  path_of_derivation a b d = steps_of_path (path_of_units (HasProduction g) d)

  pub derivation_of_path : (a b : ℕ) → LeadsTo (IsStep g) a b → DerivesRule (HasProduction g) a b
  derivation_of_path a b l = go l.path l.some l.leads
    where
      go : (path : List UnitStep) → 0 < length path → Leads (IsStep g) a path b → DerivesRule (HasProduction g) a b
      go [] some l = absurd (omega (arith, some))
      go (step ∷ path) some l = unit_along (HasProduction g) (path_of_steps a step path b l)

  pub cycle_of_derivation : (r : ℕ) → IsCyclic (HasProduction g) r → (path : List UnitStep) × IsCycle (IsStep g) r path
  cycle_of_derivation r d = let w = path_of_derivation r r d in (w.path, record { some = w.some; leads = w.leads })

  pub derivation_of_cycle : (r : ℕ) → (path : List UnitStep) × IsCycle (IsStep g) r path → IsCyclic (HasProduction g) r
  derivation_of_cycle r h = derivation_of_path r r (record { path = h.0; some = h.1.some; leads = h.1.leads })
