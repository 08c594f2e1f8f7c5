-- Each cyclic rule is in exactly one group.
use Rattle.std.proofs.Common.{◌≡◌, ℕ, zero, suc, ◌<◌, ◌≤◌, ◌⊎◌, inl, inr, List, [], ◌∷◌, ◌++◌, Option, Some, None, get_or, length, slice_get, arith, refl, sym, ap, ◌∙◌, subst, length-append}
use Rattle.std.proofs.lemmas.Bool.{cases_lt}
use Rattle.std.proofs.lemmas.Option.{get_or_from_slice_get, slice_get-get_or, slice_get_within}
use Rattle.search.proofs.Members.{contains_or_not}
use Rattle.cfgcycles.specs.declared.groups.CyclicGroup.{CyclicGroup}
use Rattle.cfgcycles.specs.declared.step_paths.UnitStep.{UnitStep}
use Rattle.cfgcycles.specs.CyclicGroups.{AreGroups, IsGroup, IsGroupOf, IsInGroup, IsInOneGroup, LeadsTo, OnCommonCycle}
use Rattle.cfgcycles.specs.StepLists.{HasStep}
use Rattle.cfgcycles.specs.StepPaths.{Leads}
use Rattle.cfgcycles.proofs.Members.{has_list}
use Rattle.cfgcycles.proofs.Reaching.{leads_through}

module _ (Has : ℕ → UnitStep → Type 0) where
  on_through : (a b c : ℕ) → LeadsTo Has a b → LeadsTo Has b c → LeadsTo Has a c
  on_through a b c l m = record {
    path = l.path ++ m.path;
    some = let some = l.some in omega (arith, some, length-append l.path m.path);
    leads = leads_through Has a l.path b m.path c l.leads m.leads;
  }

  turned_round : (a b : ℕ) → OnCommonCycle Has a b → OnCommonCycle Has b a
  turned_round a b h = record { there = h.back; back = h.there }

  common_through : (a b c : ℕ) → OnCommonCycle Has a b → OnCommonCycle Has b c → OnCommonCycle Has a c
  common_through a b c h k = record { there = on_through a b c h.there k.there; back = on_through c b a k.back h.back }

module _ (steps : List (List UnitStep)) (groups : List (Option CyclicGroup)) (are : AreGroups (HasStep steps) (length steps) groups) (rule : ℕ) where
  first_within : (a b : ℕ) → LeadsTo (HasStep steps) a b → a < length steps
  first_within a b l = go l.path l.some l.leads
    where
      go : (path : List UnitStep) → 0 < length path → Leads (HasStep steps) a path b → a < length steps
      go [] some l = absurd (omega (arith, some))
      go (step ∷ path) some l = has_list steps a step l.0

  entry : (first : ℕ) (group : CyclicGroup) → slice_get groups first ≡ Some (Some group) → IsGroup (HasStep steps) first group.rules.items group.cycle.items
  entry first group is = subst (IsGroupOf (HasStep steps) first) (get_or_from_slice_get groups first (Some group) None is)
      (are.each first (subst (λ n. first < n) are.entries (slice_get_within groups first (Some group) is)))

  -- a group has the rule, or it is on a common cycle with none of the first n rules
  look : (n : ℕ) → ((first : ℕ) × IsInGroup groups rule first) ⊎ ((r : ℕ) → r < n → OnCommonCycle (HasStep steps) r rule → ⊥)
  look zero = inr (λ r lt h. omega (arith, lt))
  look (suc n) = elim (look n) [
    | inl found ↦ inl found
    | inr none ↦ elim (cases_lt n (length steps)) [
      | inl lt ↦ one_more n none lt (get_or groups n None) refl
      | inr past ↦ inr (none_more n none (λ h. let lt = first_within n rule h.there in omega (arith, past, lt)))
    ]
  ]
    where
      none_more : (n : ℕ) → ((r : ℕ) → r < n → OnCommonCycle (HasStep steps) r rule → ⊥) → (OnCommonCycle (HasStep steps) n rule → ⊥)
          → (r : ℕ) → r < suc n → OnCommonCycle (HasStep steps) r rule → ⊥
      none_more n none here r lt h = elim (cases_lt r n) [
        | inl less ↦ none r less h
        | inr le ↦ let same : r ≡ n = omega (arith, le, lt) in here (subst (λ k. OnCommonCycle (HasStep steps) k rule) same h)
      ]

      one_more : (n : ℕ) → ((r : ℕ) → r < n → OnCommonCycle (HasStep steps) r rule → ⊥) → n < length steps → (found : Option CyclicGroup) → get_or groups n None ≡ found
          → ((first : ℕ) × IsInGroup groups rule first) ⊎ ((r : ℕ) → r < suc n → OnCommonCycle (HasStep steps) r rule → ⊥)
      one_more n none lt None is = inr (none_more n none (λ h. subst (IsGroupOf (HasStep steps) n) is (are.each n lt) (record {
        cyclic = common_through (HasStep steps) n rule n h (turned_round (HasStep steps) n rule h);
        least = λ other k. elim (cases_lt other n) [
          | inl less ↦ absurd (none other less (common_through (HasStep steps) other n rule (turned_round (HasStep steps) n other k) h))
          | inr le ↦ le
        ];
      })))
      one_more n none lt (Some group) is = elim (contains_or_not group.rules.items rule) [
        | inl c ↦ inl (n, record { group = group; is = slice_get-get_or groups n None (subst (λ k. n < k) (sym are.entries) lt) ∙ ap Some is; has = c })
        | inr out ↦
            let g : IsGroup (HasStep steps) n group.rules.items group.cycle.items = subst (IsGroupOf (HasStep steps) n) is (are.each n lt) in
            inr (none_more n none (λ h. out ((g.all rule).1 h)))
      ]

  no_higher : (a b : ℕ) → IsInGroup groups rule a → IsInGroup groups rule b → a ≤ b
  no_higher a b g h =
      let of_a = entry a g.group g.is in
      let of_b = entry b h.group h.is in
      let common = common_through (HasStep steps) a rule b ((of_a.all rule).0 g.has) (turned_round (HasStep steps) b rule ((of_b.all rule).0 h.has)) in
      of_a.least b ((of_a.all b).1 common)

  pub one_group : OnCommonCycle (HasStep steps) rule rule → IsInOneGroup groups rule
  one_group cyclic = elim (look (suc rule)) [
    | inl found ↦ record {
      first = found.0;
      within = found.1;
      only = λ other h. let up = no_higher other found.0 h found.1 in let down = no_higher found.0 other found.1 h in omega (arith, up, down);
    }
    | inr none ↦ absurd (none rule (omega arith) cyclic)
  ]
