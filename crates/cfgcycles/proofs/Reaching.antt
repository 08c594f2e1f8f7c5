-- Paths of zero or more steps.
use Rattle.std.proofs.Common.{ℕ, List, [], ◌∷◌, ◌++◌, refl, sym, subst}
use Rattle.search.specs.Components.{ReachableFrom}
use Rattle.search.specs.Reachable.{led, seed}
use Rattle.cfgcycles.specs.declared.step_paths.UnitStep.{UnitStep}
use Rattle.cfgcycles.specs.StepPaths.{Leads}
use Rattle.cfgcycles.specs.StepLists.{HasStep}
use Rattle.cfgcycles.specs.Inner.Components.{Reaches, StepsTo}

module _ (Has : ℕ → UnitStep → Type 0) where
  pub leads_through : (a : ℕ) (path : List UnitStep) (b : ℕ) (more : List UnitStep) (c : ℕ) → Leads Has a path b → Leads Has b more c → Leads Has a (path ++ more) c
  leads_through a [] b more c same l = subst (λ n. Leads Has n more c) (sym same) l
  leads_through a (step ∷ path) b more c l m = (l.0, leads_through step.rule path b more c l.1 m)

  pub reaches_itself : (a : ℕ) → Reaches Has a a
  reaches_itself a = ([], refl)

  pub reaches_by : (a : ℕ) (step : UnitStep) → Has a step → Reaches Has a step.rule
  reaches_by a step has = (step ∷ [], (has, refl))

  pub reaches_through : (a b c : ℕ) → Reaches Has a b → Reaches Has b c → Reaches Has a c
  reaches_through a b c there on = (there.0 ++ on.0, leads_through a there.0 b on.0 c there.1 on.1)

-- what a search reaches from a rule is what paths lead to
module _ (steps : List (List UnitStep)) where
  pub path_there : (a b : ℕ) → ReachableFrom (StepsTo steps) a b → Reaches (HasStep steps) a b
  path_there a b (seed e) = ([], sym e)
  path_there a b (led {a = c} r leads) = reaches_through (HasStep steps) a c b (path_there a c r)
      (subst (Reaches (HasStep steps) c) (sym leads.finds) (reaches_by (HasStep steps) c leads.thing leads.among))

  along : (a c : ℕ) (path : List UnitStep) (b : ℕ) → ReachableFrom (StepsTo steps) a c → Leads (HasStep steps) c path b → ReachableFrom (StepsTo steps) a b
  along a c [] b r same = subst (ReachableFrom (StepsTo steps) a) same r
  along a c (step ∷ path) b r l = along a step.rule path b (led r (record { thing = step; among = l.0; finds = refl })) l.1

  pub reached_along : (a b : ℕ) → Reaches (HasStep steps) a b → ReachableFrom (StepsTo steps) a b
  reached_along a b r = along a a r.0 b (seed refl) r.1
