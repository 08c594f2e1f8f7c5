-- Rules that are found in layers are found by shortest paths of steps.
use Rattle.std.proofs.Common.{◌≡◌, ℕ, zero, suc, ◌≤◌, inl, inr, List, [], ◌∷◌, ◌++◌, Option, Some, Contains, length, arith, refl, sym, ap, ◌∙◌, subst}
use Rattle.std.proofs.lemmas.Bool.{cases_lt}
use Rattle.lemmas.proofs.Contained.{contains_none}
use Rattle.cfgcycles.specs.declared.shortest.Found.{Found}
use Rattle.cfgcycles.specs.declared.step_paths.UnitStep.{UnitStep}
use Rattle.cfgcycles.specs.StepPaths.{Leads}
use Rattle.cfgcycles.specs.Inner.Layers.{AreLayers, Finds, InLayer, PathTo, noted}

module _ (Has : ℕ → UnitStep → Type 0) (first : ℕ) where
  -- a path followed by a step
  pub leads_then : (a : ℕ) (path : List UnitStep) (b : ℕ) (step : UnitStep) → Leads Has a path b → Has b step → Leads Has a (path ++ (step ∷ [])) step.rule
  leads_then a [] b step e h = (subst (λ n. Has n step) (sym e) h, refl)
  leads_then a (next ∷ path) b step l h = (l.0, leads_then next.rule path b step l.1 h)

  -- a path of one or more steps has a last one
  record LastOf (a : ℕ) (path : List UnitStep) (b : ℕ) : Type 0 where
    prefix : List UnitStep
    step : UnitStep
    from : ℕ
    leads : Leads Has a prefix from
    has : Has from step
    to : step.rule ≡ b
    long : length path ≡ suc (length prefix)

  last_of : (a : ℕ) (step : UnitStep) (path : List UnitStep) (b : ℕ) → Leads Has a (step ∷ path) b → LastOf a (step ∷ path) b
  last_of a step [] b l = record { prefix = []; step = step; from = a; leads = refl; has = l.0; to = l.1; long = refl }
  last_of a step (next ∷ path) b l =
      let rest = last_of step.rule next path b l.1 in
      record { prefix = step ∷ rest.prefix; step = rest.step; from = rest.from; leads = (l.0, rest.leads); has = rest.has; to = rest.to; long = ap suc rest.long }

  step_then : (b n : ℕ) (step : UnitStep) → PathTo Has first b n → Has b step → PathTo Has first step.rule (suc n)
  step_then b n step r h = record {
    path = r.path ++ (step ∷ []);
    leads = leads_then first r.path b step r.leads h;
    long = longer r.path ∙ ap suc r.long;
  }
    where
      longer : (l : List UnitStep) → length (l ++ (step ∷ [])) ≡ suc (length l)
      longer [] = refl
      longer (x ∷ l) = ap suc (longer l)

  -- a path of one more step than the one to the rule before
  pub record Before (rule n : ℕ) : Type 0 where
    pub from : ℕ
    pub step : UnitStep
    pub path : PathTo Has first from n
    pub has : Has from step
    pub to : step.rule ≡ rule

  pub before : (rule n : ℕ) → PathTo Has first rule (suc n) → Before rule n
  before rule n r = go r.path r.leads r.long
    where
      go : (path : List UnitStep) → Leads Has first path rule → length path ≡ suc n → Before rule n
      go [] l e = absurd (omega (arith, e))
      go (x ∷ path) l e =
          let w = last_of first x path rule l in
          let long : length w.prefix ≡ n = omega (arith, w.long, e) in
          record { from = w.from; step = w.step; path = record { path = w.prefix; leads = w.leads; long = long }; has = w.has; to = w.to }

  module _ (n : ℕ) (table : List (Option Found)) (layer : List ℕ) (are : AreLayers Has first n table layer) where
    -- a path of as many steps as its layer says leads to each rule
    pub path_to_layer : (m rule : ℕ) → InLayer Has first table m rule → PathTo Has first rule m
    path_to_layer zero rule (inl h) = record { path = []; leads = sym h.1; long = refl }
    path_to_layer zero rule (inr h) = absurd (omega (arith, h.0))
    path_to_layer (suc m) rule (inl h) = absurd (omega (arith, h.0))
    path_to_layer (suc m) rule (inr h) =
        let f = h.1.found in
        let b = are.previous rule f h.1.is in
        let same : b.0 ≡ m = omega (arith, b.1, h.1.long) in
        let r = path_to_layer m f.from (subst (λ k. InLayer Has first table k f.from) same b.2) in
        let has = are.has rule f h.1.is in
        subst (λ k. PathTo Has first k (suc m)) has.1 (step_then f.from m f.step r has.0)

    -- a rule that is found by fewer steps than the last layer leads to rules that have been found
    pub leads_on : (m from : ℕ) → suc m ≤ n → InLayer Has first table m from → (step : UnitStep) → Has from step
        → (found : Found) × (noted table step.rule ≡ Some found) × (found.length ≤ suc m)
    leads_on m from le h step has = are.all m step.rule le (step_then from m step (path_to_layer m from h) has)

    -- if a path leads to a rule, a layer that is at most as far away has the rule
    pub in_some_layer : (m rule : ℕ) → m ≤ n → PathTo Has first rule m → (k : ℕ) × (k ≤ m) × InLayer Has first table k rule
    in_some_layer zero rule le r = (0, omega arith, inl (refl, start r.path r.leads r.long))
      where
        start : (path : List UnitStep) → Leads Has first path rule → length path ≡ 0 → rule ≡ first
        start [] l e = sym l
        start (x ∷ path) l e = absurd (omega (arith, e))
    in_some_layer (suc m) rule le r =
        let w = are.all m rule le r in
        let b = are.previous rule w.0 w.1 in
        (w.0.length, w.2, inr (omega (arith, b.1), record { found = w.0; is = w.1; long = refl }))

    module _ (new : List (Option Found)) (after : List ℕ)
        (finds : Finds (suc n) (λ a step. Contains layer a × Has a step) table [] new after) where
      layer_kept : (m rule : ℕ) → InLayer Has first table m rule → InLayer Has first new m rule
      layer_kept m rule (inl h) = inl h
      layer_kept m rule (inr h) = inr (h.0, record { found = h.1.found; is = finds.kept rule h.1.found h.1.is; long = h.1.long })

      -- one more layer
      pub next_layer : AreLayers Has first (suc n) new after
      next_layer = record {
        has = λ rule f e. elim (finds.fresh rule f e) [ inl old ↦ are.has rule f old | inr h ↦ (h.0.1, h.1) ];
        previous = λ rule f e. elim (finds.fresh rule f e) [
          | inl old ↦ let b = are.previous rule f old in (b.0, b.1, layer_kept b.0 f.from b.2)
          | inr h ↦ (n, h.2, layer_kept n f.from ((are.last f.from).0 h.0.0))
        ];
        long = long;
        all = all;
        last = λ rule. (
          (λ h. elim (finds.waits rule h) [ inl none ↦ absurd (contains_none rule none) | inr is ↦ inr (omega arith, is) ]),
          (λ h. elim h [
            | inl h ↦ absurd (omega (arith, h.0))
            | inr h ↦ elim (finds.fresh rule h.1.found h.1.is) [
              | inl old ↦ let le = are.long rule h.1.found old in absurd (omega (arith, le, h.1.long))
              | inr k ↦ k.3
            ]
          ]),
        );
      }
        where
          long : (rule : ℕ) (f : Found) → noted new rule ≡ Some f → f.length ≤ suc n
          long rule f e = elim (finds.fresh rule f e) [
            | inl old ↦ let le = are.long rule f old in omega (arith, le)
            | inr h ↦ omega (arith, h.2)
          ]

          kept : (m rule : ℕ) → (found : Found) × (noted table rule ≡ Some found) × (found.length ≤ suc m)
              → (found : Found) × (noted new rule ≡ Some found) × (found.length ≤ suc m)
          kept m rule w = (w.0, finds.kept rule w.0 w.1, w.2)

          all : (m rule : ℕ) → suc m ≤ suc n → PathTo Has first rule (suc m) → (found : Found) × (noted new rule ≡ Some found) × (found.length ≤ suc m)
          all m rule le r = elim (cases_lt m n) [
            | inl lt ↦ kept m rule (are.all m rule lt r)
            | inr ge ↦
                let b = before rule m r in
                let w = in_some_layer m b.from (omega (arith, le)) b.path in
                subst (λ k. (found : Found) × (noted new k ≡ Some found) × (found.length ≤ suc m)) b.to (after_layer m ge le b.from b.step b.has w)
          ]
            where
              after_layer : (m : ℕ) → n ≤ m → suc m ≤ suc n → (from : ℕ) (step : UnitStep) → Has from step
                  → (k : ℕ) × (k ≤ m) × InLayer Has first table k from
                  → (found : Found) × (noted new step.rule ≡ Some found) × (found.length ≤ suc m)
              after_layer m ge le from step has w = elim (cases_lt w.0 n) [
                | inl lt ↦ let k = leads_on w.0 from lt w.2 step has in
                    (k.0, finds.kept step.rule k.0 k.1, omega (arith, k.2, w.1))
                | inr more ↦
                    let same : w.0 ≡ n = omega (arith, more, w.1, le) in
                    let f = finds.all from step ((are.last from).1 (subst (λ j. InLayer Has first table j from) same w.2), has) in
                    let short = long step.rule f.0 f.1 in
                    (f.0, f.1, omega (arith, short, ge))
              ]
