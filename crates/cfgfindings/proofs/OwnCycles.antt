-- Groups of cyclic rules of a grammar, and their cycles.
use Rattle.std.proofs.Common.{◌≡◌, ℕ, ◌+◌, ◌<◌, ◌≤◌, ◌↔◌, Bool, true, drop, leb, List, [], ◌∷◌, ◌++◌, All, Contains, Option, None, Some, get_or, length, slice_get, take, arith, refl, sym, ap, subst, ◌∙◌, length-append}
use Rattle.std.specs.List.{filter}
use Rattle.std.specs.List.Sorted.{IsStrictlyIncreasing}
use Rattle.std.proofs.lemmas.Bool.{le-leb, leb-true}
use Rattle.std.proofs.lemmas.List.{drop_more, get_or_default, take-append-drop}
use Rattle.std.proofs.lemmas.List.Elements.{All-cons, All-contains, All-contains_itself, All-filter, All-nil, Contains-append_right, filter-append, filter_passes}
use Rattle.std.proofs.lemmas.List.Kept.{IsStrictlyIncreasing-filter}
use Rattle.std.proofs.lemmas.Option.{get_or_from_slice_get, same_Some, slice_get-get_or, slice_get_within}
use Rattle.cfgrammar.proofs.Contained.{contains_first}
use Rattle.cfgrammar.specs.Grammar.{Grammar, HasProduction}
use Rattle.cfgrammar.specs.Numbered.{Numbered, core}
use Rattle.cfgrammar.specs.UnitPaths.{DerivesRule}
use Rattle.cfgrammar.specs.CyclicGroup.{CyclicGroup}
use Rattle.cfgrammar.specs.CyclicGroups.{AreGroups, IsFirst, IsGroup, IsGroupOf, LeadsTo, OnCommonCycle}
use Rattle.cfgrammar.specs.StepLists.{HasStep}
use Rattle.cfgrammar.specs.StepPaths.{IsCycle, IsShortestCycle, Leads}
use Rattle.cfgrammar.specs.UnitSteps.{AreSteps, IsStep}
use Rattle.cfgrammar.specs.UnitStep.{UnitStep}
use Rattle.cfgfindings.specs.Findings.{DeriveEachOther, IsCyclicGroup, ReportsGroup, rules_added}
use Rattle.cfgfindings.specs.Shown.{ShownFinding, cyclic_finding}
use Rattle.cfgfindings.specs.Inner.CyclicRules.{AreOwnGroups, IsSomeStep}

-- paths after others
module _ (Has : ℕ → UnitStep → Type 0) where
  leads_through : (a : ℕ) (path : List UnitStep) (b : ℕ) (more : List UnitStep) (c : ℕ) → Leads Has a path b → Leads Has b more c → Leads Has a (path ++ more) c
  leads_through a [] b more c same l = subst (λ n. Leads Has n more c) (sym same) l
  leads_through a (step ∷ path) b more c l m = (l.0, leads_through step.rule path b more c l.1 m)

  pub leads_to_through : (a b c : ℕ) → LeadsTo Has a b → LeadsTo Has b c → LeadsTo Has a c
  leads_to_through a b c l m = record {
    path = l.path ++ m.path;
    some = let some = l.some in omega (arith, some, length-append l.path m.path);
    leads = leads_through a l.path b m.path c l.leads m.leads;
  }

-- steps that are also others
module _ (Has Has' : ℕ → UnitStep → Type 0) (to : (rule : ℕ) (step : UnitStep) → Has rule step → Has' rule step) where
  leads_as : (a : ℕ) (path : List UnitStep) (b : ℕ) → Leads Has a path b → Leads Has' a path b
  leads_as a [] b same = same
  leads_as a (step ∷ path) b (first, rest) = (to a step first, leads_as step.rule path b rest)

  pub cycle_as : (rule : ℕ) (path : List UnitStep) → IsCycle Has rule path → IsCycle Has' rule path
  cycle_as rule path l = record { some = l.some; leads = leads_as rule path rule l.leads }

  leads_to_as : (a b : ℕ) → LeadsTo Has a b → LeadsTo Has' a b
  leads_to_as a b l = record { path = l.path; some = l.some; leads = leads_as a l.path b l.leads }

  common_as : (a b : ℕ) → OnCommonCycle Has a b → OnCommonCycle Has' a b
  common_as a b h = record { there = leads_to_as a b h.there; back = leads_to_as b a h.back }

-- the same steps
module _ (Has Has' : ℕ → UnitStep → Type 0) (to : (rule : ℕ) (step : UnitStep) → Has rule step → Has' rule step) (from : (rule : ℕ) (step : UnitStep) → Has' rule step → Has rule step) where
  pub shortest_as : (rule : ℕ) (path : List UnitStep) → IsShortestCycle Has rule path → IsShortestCycle Has' rule path
  shortest_as rule path s = record {
    itself = cycle_as Has Has' to rule path s.itself;
    least = λ other l. s.least other (cycle_as Has' Has from rule other l);
  }

  group_as : (rule : ℕ) (found : Option CyclicGroup) → IsGroupOf Has rule found → IsGroupOf Has' rule found
  group_as rule None none = λ first. none (record {
    cyclic = common_as Has' Has from rule rule first.cyclic;
    least = λ other h. first.least other (common_as Has Has' to rule other h);
  })
  group_as rule (Some group) s = record {
    ascending = s.ascending;
    all = λ other. ((λ c. common_as Has Has' to rule other ((s.all other).0 c)), (λ h. (s.all other).1 (common_as Has' Has from rule other h)));
    least = s.least;
    shortest = shortest_as rule group.cycle.items s.shortest;
  }

-- the groups by the steps of a grammar are its groups
pub own_groups : (g : Numbered) (steps : List (List UnitStep)) → AreSteps (core g) steps → (groups : List (Option CyclicGroup))
    → AreGroups (HasStep steps) (length steps) groups → AreOwnGroups g steps groups
own_groups g steps are groups h = record {
  are_steps = are;
  are_groups = record {
    entries = h.entries ∙ are.rules;
    each = λ rule within. group_as (HasStep steps) (IsStep (core g)) (λ a step. (are.all a step).0) (λ a step. (are.all a step).1) rule (get_or groups rule None)
        (h.each rule (subst (λ n. rule < n) (sym are.rules) within));
  };
}

-- a shortest cycle by the steps of a grammar
pub own_shortest : (g : Numbered) (steps : List (List UnitStep)) → AreSteps (core g) steps → (rule : ℕ) (path : List UnitStep)
    → IsShortestCycle (HasStep steps) rule path → IsShortestCycle (IsStep (core g)) rule path
own_shortest g steps are = shortest_as (HasStep steps) (IsStep (core g)) (λ a step. (are.all a step).0) (λ a step. (are.all a step).1)

-- each step of a path is a step of some rule
pub steps_of_path : (g : Numbered) (a : ℕ) (path : List UnitStep) (b : ℕ) → Leads (IsStep (core g)) a path b → All (IsSomeStep g) path
steps_of_path g a [] b same = All-nil (IsSomeStep g)
steps_of_path g a (step ∷ path) b (first, rest) = All-cons (IsSomeStep g) step path (a, first) (steps_of_path g step.rule path b rest)

-- what is found of a rule of the grammar that is shown
pub found_at : (g shown : Numbered) → g ≡ shown → (groups : List (Option CyclicGroup)) → AreGroups (IsStep (core g)) (length g.rules) groups → (rule : ℕ)
    → rule < length shown.rules → (found entry : Option CyclicGroup) → found ≡ get_or groups rule found → found ≡ entry → IsGroupOf (IsStep (core g)) rule entry
found_at g shown same groups are rule within found entry is read =
    let there : rule < length g.rules = subst (λ (g : Numbered). rule < length g.rules) (sym same) within in
    subst (IsGroupOf (IsStep (core g)) rule) (get_or_default groups rule None found (subst (λ n. rule < n) (sym are.entries) there) ∙ sym is ∙ read) (are.each rule there)

-- the elements that pass a test
module _ (test : ℕ → Bool) where
  pub kept : (xs : List ℕ) (x : ℕ) → Contains xs x → test x ≡ true → Contains (filter test xs) x
  kept xs x (k, lt, at) passes =
      let back = drop (k + 1) xs in
      let split : take k xs ++ (x ∷ back) ≡ xs = ap (λ l. take k xs ++ l) (ap (λ y. y ∷ back) (sym at) ∙ sym (drop_more xs k x lt)) ∙ take-append-drop k xs in
      subst (λ l. Contains (filter test l) x) split (rw (filter-append test (take k xs) (x ∷ back))
      (Contains-append_right (filter test (take k xs)) _ x (rw passes (0, omega arith, refl))))

  pub passed : (xs : List ℕ) (x : ℕ) → Contains (filter test xs) x → Contains xs x × (test x ≡ true)
  passed xs x c = (
    All-contains (Contains xs) (filter test xs) x (All-filter test (Contains xs) xs (All-contains_itself xs)) c,
    All-contains (λ y. test y ≡ true) (filter test xs) x (filter_passes test xs) c,
  )

module _ (law : (g : Grammar) (a b : ℕ) → LeadsTo (IsStep g) a b ↔ DerivesRule (HasProduction g) a b) (g : Numbered) where
  derive_each_other : (a b : ℕ) → OnCommonCycle (IsStep (core g)) a b → DeriveEachOther g a b
  derive_each_other a b h = record { there = (law (core g) a b).0 h.there; back = (law (core g) b a).0 h.back }

  on_cycle : (a b : ℕ) → DeriveEachOther g a b → OnCommonCycle (IsStep (core g)) a b
  on_cycle a b h = record { there = (law (core g) a b).1 h.there; back = (law (core g) b a).1 h.back }

  -- the rule is the first of no group
  pub reports_none : (first : ℕ) → (IsFirst (IsStep (core g)) first → ⊥) → ReportsGroup g first None
  reports_none first none = λ r others is. none (record {
    cyclic = on_cycle first first (record { there = is.cyclic; back = is.cyclic });
    least = λ other h. is.least other (derive_each_other first other h);
  })

  module _ (steps : List (List UnitStep)) (are : AreSteps (core g) steps) (first : ℕ) (rules : List ℕ) (cycle : List UnitStep)
      (group : IsGroup (IsStep (core g)) first rules cycle) (own : List ℕ) (is : own ≡ filter (λ rule. leb (rules_added g) rule) rules) where
    abbrev test : ℕ → Bool
    test rule = leb (rules_added g) rule

    common : (rule : ℕ) → Contains own rule → (rules_added g ≤ rule) × OnCommonCycle (IsStep (core g)) first rule
    common rule c =
        let w = passed test rules rule (subst (λ l. Contains l rule) is c) in
        (leb-true (rules_added g) rule w.1, (group.all rule).0 w.0)

    held : (rule : ℕ) → rules_added g ≤ rule → DeriveEachOther g first rule → Contains own rule
    held rule ours each = subst (λ l. Contains l rule) (sym is)
        (kept test rules rule ((group.all rule).1 (on_cycle first rule each)) (le-leb (rules_added g) rule ours))

    own_group : IsCyclicGroup g first own
    own_group = record {
      cyclic = (law (core g) first first).0 itself;
      least = λ rule each. group.least rule ((group.all rule).1 (on_cycle first rule each));
      ascending = subst IsStrictlyIncreasing (sym is) (IsStrictlyIncreasing-filter test rules group.ascending);
      all = λ rule. (
        (λ c. let w = common rule c in (w.0, derive_each_other first rule w.1)),
        (λ h. held rule h.0 h.1),
      );
    }
      where
        itself : LeadsTo (IsStep (core g)) first first
        itself = record { path = cycle; some = group.shortest.itself.some; leads = group.shortest.itself.leads }

    -- rules of the group are rules of the grammar
    pub own_within : All (λ rule. rule < length g.rules) own
    own_within k d lt = let l = (common (get_or own k d) (k, lt, get_or_default own k _ d lt)).1.there in
        inside first l.path (get_or own k d) l.some l.leads
      where
        inside : (a : ℕ) (path : List UnitStep) (b : ℕ) → 0 < length path → Leads (IsStep (core g)) a path b → b < length g.rules
        inside a [] b some l = absurd (omega (arith, some))
        inside a (step ∷ []) b some l = subst (λ n. n < length g.rules) l.1 (subst (λ n. step.rule < n) are.rules (are.within a step ((are.all a step).1 l.0)))
        inside a (step ∷ next ∷ path) b some l = inside step.rule (next ∷ path) b (omega arith) l.1

    -- it has no rules of the file
    pub reports_no_own : slice_get own 0 ≡ None → ReportsGroup g first None
    reports_no_own none = λ r others h.
        let w = (h.all r).0 (contains_first r others) in
        let (k, lt, at) = held r w.0 w.1 in
        let some : None ≡ Some (get_or own 0 r) = sym none ∙ slice_get-get_or own 0 r (omega (arith, lt)) in cc

    -- it has rules of the file, the first of which has this cycle
    pub reports_own : (r : ℕ) → slice_get own 0 ≡ Some r → (path : List UnitStep) → IsShortestCycle (IsStep (core g)) r path → (finding : ShownFinding)
        → finding ≡ cyclic_finding g r own path → ReportsGroup g first (Some finding)
    reports_own r head path shortest finding shown = go own own_group head shown
      where
        go : (xs : List ℕ) → IsCyclicGroup g first xs → slice_get xs 0 ≡ Some r → finding ≡ cyclic_finding g r xs path → ReportsGroup g first (Some finding)
        go [] is e shown = let same : None ≡ Some r = e in absurd (cc)
        go (x ∷ xs) is e shown =
            let same : x ≡ r = same_Some x r e in
            (r, xs, path, subst (λ n. IsCyclicGroup g first (n ∷ xs)) same is, shortest, subst (λ n. finding ≡ cyclic_finding g r (n ∷ xs) path) same shown)

    pub head_within : (r : ℕ) → slice_get own 0 ≡ Some r → r < length g.rules
    head_within r head = subst (λ n. n < length g.rules) (get_or_from_slice_get own 0 r r head) (own_within 0 r (slice_get_within own 0 r head))

    -- the first of them is one of them, so it has a cycle
    pub own_cycle : (r : ℕ) → slice_get own 0 ≡ Some r → (path : List UnitStep) × IsCycle (IsStep (core g)) r path
    own_cycle r head =
        let h = (common r (0, slice_get_within own 0 r head, get_or_from_slice_get own 0 r r head)).1 in
        let l = leads_to_through (IsStep (core g)) r first r h.back h.there in
        (l.path, record { some = l.some; leads = l.leads })
