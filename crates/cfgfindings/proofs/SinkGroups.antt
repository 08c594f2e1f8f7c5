-- Groups of unproductive rules, and which of them are sink groups.
use Rattle.std.proofs.Common.{◌≡◌, inl, inr, ℕ, ◌+◌, ◌<◌, List, [], ◌∷◌, All, Contains, Option, None, Some, MatchOption, false, eqb, not, get_or, length, slice_get, slice_set, take, arith, refl, sym, ap, ◌∙◌, subst, get_or-set_same, get_or-set_other, true≢false}
use Rattle.std.specs.Option.{option_eq}
use Rattle.std.proofs.lemmas.Bool.{cases_eq, cases_lt, eqb-true, not-false}
use Rattle.std.proofs.lemmas.List.{get_or_default}
use Rattle.std.proofs.lemmas.Option.{get_or_from_slice_get, same_Some, slice_get_within}
use Rattle.search.specs.Reachable.{led, seed}
use Rattle.cfgrammar.proofs.Taken.{contains_taken}
use Rattle.cfgrammar.specs.Grammar.{HasProduction}
use Rattle.cfgrammar.specs.Productive.{Unproductive}
use Rattle.cfgrammar.specs.Numbered.{Numbered, core}
use Rattle.cfgrammar.specs.CyclicGroup.{CyclicGroup}
use Rattle.cfgrammar.specs.CyclicGroups.{AreGroups, IsGroup, IsGroupOf, IsInGroup, IsInOneGroup, LeadsTo, OnCommonCycle}
use Rattle.cfgrammar.specs.StepLists.{AreWithin, HasStep}
use Rattle.cfgrammar.specs.StepPaths.{Leads}
use Rattle.cfgrammar.specs.UnitStep.{UnitStep}
use Rattle.cfgfindings.specs.SinkGroups.{DependsOn, IsInSinkGroup}
use Rattle.cfgfindings.specs.Inner.SinkGroups.{AllLeadTo, AreFirsts, AreGroupOf, AreNeeds, AreSinkGroups, IsClosed, IsFirstOf, IsInClosed, IsMarked, IsSinkGroupOf, IsSet, LeadTo, StepsTo}
use Rattle.cfgfindings.proofs.OwnCycles.{leads_to_through}

-- the group at an index
pub group_at : (steps : List (List UnitStep)) (groups : List (Option CyclicGroup)) → AreGroups (HasStep steps) (length steps) groups → (first : ℕ) (group : CyclicGroup)
    → slice_get groups first ≡ Some (Some group) → IsGroup (HasStep steps) first group.rules.items group.cycle.items
group_at steps groups are first group at =
    subst (IsGroupOf (HasStep steps) first) (get_or_from_slice_get groups first (Some group) None at)
    (are.each first (subst (λ n. first < n) are.entries (slice_get_within groups first (Some group) at)))

-- rules that lead to others by steps have lists
module _ (steps : List (List UnitStep)) (within : AreWithin steps) where
  leads_within : (a : ℕ) (path : List UnitStep) (b : ℕ) → a < length steps → Leads (HasStep steps) a path b → b < length steps
  leads_within a [] b lt same = subst (λ n. n < length steps) same lt
  leads_within a (step ∷ path) b lt l = leads_within step.rule path b (within a step l.0) l.1

  leads_to_within : (a b : ℕ) → LeadsTo (HasStep steps) a b → b < length steps
  leads_to_within a b l = go l.path l.some l.leads
    where
      go : (path : List UnitStep) → 0 < length path → Leads (HasStep steps) a path b → b < length steps
      go [] some leads = absurd (omega (arith, some))
      go (step ∷ path) some leads = leads_within step.rule path b (within a step leads.0) leads.1

  pub members_within : (first : ℕ) (rules : List ℕ) (cycle : List UnitStep) → IsGroup (HasStep steps) first rules cycle → All (λ rule. rule < length steps) rules
  members_within first rules cycle group k d lt = leads_to_within first (get_or rules k d) ((group.all (get_or rules k d)).0 (k, lt, get_or_default rules k _ d lt)).there

module _ (g : Numbered) (steps : List (List UnitStep)) (are : AreNeeds g steps) where
  abbrev Depends : ℕ → ℕ → Type 0
  Depends = DependsOn (HasProduction (core g))

  abbrev IsUnproductive : ℕ → Type 0
  IsUnproductive = Unproductive (HasProduction (core g))

  depends_itself : (a : ℕ) → Depends a a
  depends_itself a = seed refl

  depends_through : {a b c : ℕ} → Depends a b → Depends b c → Depends a c
  depends_through {a = a} there (seed same) = subst (Depends a) (sym same) there
  depends_through there (led on needs) = led (depends_through there on) needs

  -- what an unproductive rule depends on is unproductive
  unproductive_too : {a b : ℕ} → IsUnproductive a → Depends a b → IsUnproductive b
  unproductive_too none (seed same) = subst IsUnproductive (sym same) none
  unproductive_too none (led there needs) = needs.needed

  -- a rule depends on those that its steps lead to
  depends_on_next : (a b : ℕ) → a < length g.rules → StepsTo steps a b → Depends a b
  depends_on_next a b lt to = elim ((are.are a b lt).0 to).1 [ inl same ↦ seed same | inr needs ↦ led (depends_itself a) needs ]

  depends_by : (a : ℕ) (path : List UnitStep) (b : ℕ) → a < length steps → Leads (HasStep steps) a path b → Depends a b
  depends_by a [] b lt same = seed (sym same)
  depends_by a (step ∷ path) b lt l = depends_through
      (depends_on_next a step.rule (subst (λ n. a < n) are.entries lt) (record { step = step; has = l.0; to = refl }))
      (depends_by step.rule path b (are.within a step l.0) l.1)

  unproductive_by : (a b : ℕ) → a < length steps → LeadsTo (HasStep steps) a b → IsUnproductive a
  unproductive_by a b lt l = go l.path l.some l.leads
    where
      go : (path : List UnitStep) → 0 < length path → Leads (HasStep steps) a path b → IsUnproductive a
      go [] some leads = absurd (omega (arith, some))
      go (step ∷ path) some leads = ((are.are a step.rule (subst (λ n. a < n) are.entries lt)).0 (record { step = step; has = leads.0; to = refl })).0

  by_one : (a b : ℕ) → StepsTo steps a b → LeadsTo (HasStep steps) a b
  by_one a b to = record { path = to.step ∷ []; some = omega arith; leads = (to.has, to.to) }

  -- steps lead from an unproductive rule to those that it depends on
  leads_on : {a b : ℕ} → a < length steps → IsUnproductive a → Depends a b → LeadsTo (HasStep steps) a b
  leads_on {a = a} lt none (seed same) = subst (LeadsTo (HasStep steps) a) (sym same) (by_one a a ((are.are a a (subst (λ n. a < n) are.entries lt)).1 (none, inl refl)))
  leads_on {a = a} lt none (led {a = x} {b = b} there needs) =
      let on = leads_on lt none there in
      let inside = subst (λ n. x < n) are.entries (leads_to_within steps are.within a x on) in
      leads_to_through (HasStep steps) a x b on (by_one x b ((are.are x b inside).1 (needs.unproductive, inr needs)))

  module _ (first : ℕ) (lt : first < length steps) (rules : List ℕ) (cycle : List UnitStep) (group : IsGroup (HasStep steps) first rules cycle)
      (r : ℕ) (has : Contains rules r) where
    -- a rule of the group: it depends on the first one, and the first one on it
    record IsMember (q : ℕ) : Type 0 where
      inside : q < length steps
      none : IsUnproductive q
      there : Depends first q
      back : Depends q first

    member : (q : ℕ) → Contains rules q → IsMember q
    member q c =
        let on = (group.all q).0 c in
        let inside = leads_to_within steps are.within first q on.there in
        record {
          inside = inside;
          none = unproductive_by q first inside on.back;
          there = depends_by first on.there.path q lt on.there.leads;
          back = depends_by q on.back.path first inside on.back.leads;
        }

    is_member : (q : ℕ) → Depends first q → Depends q first → Contains rules q
    is_member q there back =
        let none = unproductive_by first r lt ((group.all r).0 has).there in
        let on = leads_on lt none there in
        (group.all q).1 (record { there = on; back = leads_on (leads_to_within steps are.within first q on) (unproductive_too none there) back })

    -- if no step leads out of the group, it is a sink group
    pub closed_group : IsClosed steps rules → AreGroupOf g r rules
    closed_group closed = record {
      within = subst (λ n. All (λ q. q < n) rules) are.entries (members_within steps are.within first rules cycle group);
      ascending = group.ascending;
      all = λ q. ((λ c. (sink, depends_through (member r has).back (member q c).there)), (λ h. stays h.1));
    }
      where
        stays : {q : ℕ} → Depends r q → Contains rules q
        stays (seed same) = subst (Contains rules) (sym same) has
        stays (led {a = x} {b = q} there needs) =
            let c = stays there in
            closed x q c ((are.are x q (subst (λ n. x < n) are.entries (member x c).inside)).1 (needs.unproductive, inr needs))

        sink : IsInSinkGroup (HasProduction (core g)) r
        sink = record { unproductive = (member r has).none; back = λ q d. depends_through (member q (stays d)).back (member r has).there }

    -- and if one of its rules is in a sink group, no step leads out of it
    pub sink_closed : IsInSinkGroup (HasProduction (core g)) r → IsClosed steps rules
    sink_closed sink a b c to =
        let next = depends_on_next a b (subst (λ n. a < n) are.entries (member a c).inside) to in
        let there = depends_through (member a c).there next in
        is_member b there (depends_through (sink.back b (depends_through (member r has).back there)) (member r has).back)

abbrev pub InOneGroup : Type 0
InOneGroup = (steps : List (List UnitStep)) (groups : List (Option CyclicGroup)) (rule : ℕ) → AreGroups (HasStep steps) (length steps) groups
    → OnCommonCycle (HasStep steps) rule rule → IsInOneGroup groups rule

-- the first rules of groups that no step leads out of
module _ (steps : List (List UnitStep)) (groups : List (Option CyclicGroup)) where
  module _ (k : ℕ) where
    -- an entry stays if the next group doesn't have the rule, or a step leads out of it
    still_first : (rule : ℕ) (found : Option ℕ) → (IsInClosed steps groups rule k → ⊥) → IsFirstOf steps groups k rule found
        → IsFirstOf steps groups (k + 1) rule found
    still_first rule None not is = λ first lt closed. elim (cases_lt first k) [
      | inl below ↦ is first below closed
      | inr past ↦ not (subst (IsInClosed steps groups rule) (omega (arith, lt, past)) closed)
    ]
    still_first rule (Some first) not (below, closed) = (omega (arith, below), closed)

    pub no_group : (firsts : List (Option ℕ)) → slice_get groups k ≡ Some None → AreFirsts steps groups k firsts → AreFirsts steps groups (k + 1) firsts
    no_group firsts at are = record {
      entries = are.entries;
      each = λ rule. still_first rule (get_or firsts rule None) (λ closed.
          let no : Some None ≡ Some (Some closed.within.group) = sym at ∙ closed.within.is in cc) (are.each rule);
    }

    -- before the group is marked, no entry is its first rule
    pub fresh : (firsts : List (Option ℕ)) → AreFirsts steps groups k firsts → (rule : ℕ) → get_or firsts rule None ≡ Some k → ⊥
    fresh firsts are rule is = let (below, _) = subst (IsFirstOf steps groups k rule) is (are.each rule) in omega (arith, below)

    module _ (law : InOneGroup) (are_groups : AreGroups (HasStep steps) (length steps) groups) (group : CyclicGroup) (at : slice_get groups k ≡ Some (Some group)) where
      within_same : (rule : ℕ) (closed : IsInClosed steps groups rule k) → closed.within.group ≡ group
      within_same rule closed = let same : Some (Some closed.within.group) ≡ Some (Some group) = sym closed.within.is ∙ at in cc

      -- a rule is in one group
      same_first : (rule first : ℕ) → Contains group.rules.items rule → IsInClosed steps groups rule first → first ≡ k
      same_first rule first has closed =
          let on = ((group_at steps groups are_groups k group at).all rule).0 has in
          let itself = leads_to_through (HasStep steps) rule k rule on.back on.there in
          let one = law steps groups rule are_groups (record { there = itself; back = itself }) in
          one.only first closed.within ∙ sym (one.only k (record { group = group; is = at; has = has }))

      pub one_more_group : (old new : List (Option ℕ)) → length new ≡ length old → IsMarked steps group.rules.items k old new
          → AreFirsts steps groups k old → AreFirsts steps groups (k + 1) new
      one_more_group old new long marked are = record { entries = long ∙ are.entries; each = λ rule. each rule marked }
        where
          without : (rule : ℕ) → (Contains group.rules.items rule → ⊥) → get_or new rule None ≡ get_or old rule None → IsFirstOf steps groups (k + 1) rule (get_or new rule None)
          without rule none same = subst (IsFirstOf steps groups (k + 1) rule) (sym same)
              (still_first rule (get_or old rule None)
              (λ closed. none (subst (λ (x : CyclicGroup). Contains x.rules.items rule) (within_same rule closed) closed.within.has)) (are.each rule))

          each : (rule : ℕ) → IsMarked steps group.rules.items k old new → IsFirstOf steps groups (k + 1) rule (get_or new rule None)
          each rule (inl (closed, set)) = elim (set rule) [
            | inl h ↦ subst (IsFirstOf steps groups (k + 1) rule) (sym h.1)
                (omega arith, record { within = record { group = group; is = at; has = h.0 }; closed = closed })
            | inr h ↦ without rule h.0 h.1
          ]
          each rule (inr (leads_out, set)) = elim (set rule) [
            | inl h ↦ subst (IsFirstOf steps groups (k + 1) rule) (sym h.1) (λ first lt closed.
                let here = subst (IsInClosed steps groups rule) (same_first rule first h.0 closed) closed in
                leads_out (subst (λ (x : CyclicGroup). IsClosed steps x.rules.items) (within_same rule here) here.closed))
            | inr h ↦ without rule h.0 h.1
          ]

-- rules with the entry of a group are those of the group
module _ (steps : List (List UnitStep)) (rules : List ℕ) (first : ℕ) (old mid : List (Option ℕ)) (set : (rule : ℕ) → IsSet rules (Some first) old mid rule) where
  pub marked_closed : ((rule : ℕ) → get_or old rule None ≡ Some first → ⊥) → LeadTo steps mid first rules → IsClosed steps rules
  marked_closed fresh lead a b c to = elim (set b) [
    | inl h ↦ h.0
    | inr h ↦ absurd (fresh b (sym h.1 ∙ lead a b c to))
  ]

  pub closed_marked : IsClosed steps rules → LeadTo steps mid first rules
  closed_marked closed a b c to = elim (set b) [
    | inl h ↦ h.1
    | inr h ↦ absurd (h.0 (closed a b c to))
  ]

-- entries that are set twice are those that were set last
pub set_twice : (rules : List ℕ) (one other : Option ℕ) (old mid new : List (Option ℕ)) (rule : ℕ) → IsSet rules one old mid rule → IsSet rules other mid new rule
    → IsSet rules other old new rule
set_twice rules one other old mid new rule h (inl k) = inl k
set_twice rules one other old mid new rule (inl h) (inr k) = absurd (k.0 h.0)
set_twice rules one other old mid new rule (inr h) (inr k) = inr (h.0, k.1 ∙ h.1)

-- what is known of all groups of unproductive rules
module _ (g : Numbered) (steps : List (List UnitStep)) (are : AreNeeds g steps) (law : InOneGroup) (groups : List (Option CyclicGroup))
    (are_groups : AreGroups (HasStep steps) (length steps) groups) where
  there : (r first : ℕ) → IsInGroup groups r first → first < length steps
  there r first within = subst (λ n. first < n) are_groups.entries (slice_get_within groups first (Some within.group) within.is)

  sink_or_not : (r : ℕ) → r < length g.rules → (found : Option ℕ) → IsFirstOf steps groups (length groups) r found
      → MatchOption found (IsInSinkGroup (HasProduction (core g)) r → ⊥) (IsSinkGroupOf g groups r)
  sink_or_not r lt None none = λ sink.
      let itself = leads_on g steps are (subst (λ n. r < n) (sym are.entries) lt) sink.unproductive (depends_itself g steps are r) in
      let one = law steps groups r are_groups (record { there = itself; back = itself }) in
      let group = one.within.group in
      none one.first (slice_get_within groups one.first (Some group) one.within.is) (record {
        within = one.within;
        closed = sink_closed g steps are one.first (there r one.first one.within) group.rules.items group.cycle.items
            (group_at steps groups are_groups one.first group one.within.is) r one.within.has sink;
      })
  sink_or_not r lt (Some first) (below, closed) =
      let group = closed.within.group in
      record {
        group = group;
        is = closed.within.is;
        rules = closed_group g steps are first (there r first closed.within) group.rules.items group.cycle.items
            (group_at steps groups are_groups first group closed.within.is) r closed.within.has closed.closed;
      }

  pub are_sinks : (firsts : List (Option ℕ)) → AreFirsts steps groups (length groups) firsts → AreSinkGroups g groups firsts
  are_sinks firsts found = record {
    entries = found.entries ∙ are_groups.entries ∙ are.entries;
    each = λ r lt. sink_or_not r lt (get_or firsts r None) (found.each r);
  }

-- entries of one more rule
module _ (rules : List ℕ) (n rule : ℕ) (lt : n < length rules) (is : rule ≡ get_or rules n rule) where
  pub set_more : (entry : Option ℕ) (old mid : List (Option ℕ)) → rule < length mid → ((r : ℕ) → IsSet (take n rules) entry old mid r)
      → (r : ℕ) → IsSet (take (n + 1) rules) entry old (slice_set mid rule entry) r
  set_more entry old mid within before r = elim (cases_eq r rule) [
    | inl same ↦ inl (
      (contains_taken rules n rule lt is r).1 (inr same),
      subst (λ k. get_or (slice_set mid rule entry) k None ≡ entry) (sym same) (get_or-set_same mid rule entry None within),
    )
    | inr other ↦
        let unchanged = get_or-set_other mid rule r entry None other in
        elim (before r) [
          | inl h ↦ inl ((contains_taken rules n rule lt is r).1 (inl h.0), unchanged ∙ h.1)
          | inr h ↦ inr ((λ c. elim ((contains_taken rules n rule lt is r).0 c) [ inl i ↦ h.0 i | inr e ↦ other e ]), unchanged ∙ h.1)
        ]
  ]

  module _ (steps : List (List UnitStep)) (entries : List (Option ℕ)) (first : ℕ) where
    pub lead_more_rules : LeadTo steps entries first (take n rules) → AllLeadTo (get_or steps rule []) entries first → LeadTo steps entries first (take (n + 1) rules)
    lead_more_rules before here a b c to = elim ((contains_taken rules n rule lt is a).0 c) [
      | inl i ↦ before a b i to
      | inr e ↦ subst (λ k. get_or entries k None ≡ Some first) to.to (here to.step (subst (λ k. HasStep steps k to.step) e to.has))
    ]

    pub leads_elsewhere : (AllLeadTo (get_or steps rule []) entries first → ⊥) → LeadTo steps entries first rules → ⊥
    leads_elsewhere out lead = out (λ step c. lead rule step.rule (n, lt, sym is) (record { step = step; has = c; to = refl }))

pub lead_more : (steps : List UnitStep) (n : ℕ) (step : UnitStep) → n < length steps → step ≡ get_or steps n step → (entries : List (Option ℕ)) (first : ℕ)
    → AllLeadTo (take n steps) entries first → get_or entries step.rule None ≡ Some first → AllLeadTo (take (n + 1) steps) entries first
lead_more steps n step lt is entries first before here s c = elim ((contains_taken steps n step lt is s).0 c) [
  | inl i ↦ before s i
  | inr e ↦ subst (λ (x : UnitStep). get_or entries x.rule None ≡ Some first) (sym e) here
]

-- what is read of what is known of a sink group
module _ (g : Numbered) (groups : List (Option CyclicGroup)) where
  pub sink_at : (firsts : List (Option ℕ)) → AreSinkGroups g groups firsts → (r : ℕ) → r < length g.rules → (first : ℕ) (read : Option ℕ) → read ≡ get_or firsts r read
      → read ≡ Some first → IsSinkGroupOf g groups r first
  sink_at firsts are r lt first read at is =
      let inside = subst (λ n. r < n) (sym are.entries) lt in
      subst (λ found. MatchOption found (IsInSinkGroup (HasProduction (core g)) r → ⊥) (IsSinkGroupOf g groups r)) (get_or_default firsts r None read inside ∙ sym at ∙ is) (are.each r lt)

  module _ (r first : ℕ) (sink : IsSinkGroupOf g groups r first) (read : Option CyclicGroup) where
    there_is : read ≡ get_or groups first read → read ≡ Some sink.group
    there_is at = at ∙ get_or_from_slice_get groups first (Some sink.group) read sink.is

    pub rules_at : (group : CyclicGroup) → read ≡ get_or groups first read → read ≡ Some group → AreGroupOf g r group.rules.items
    rules_at group at is = subst (λ (x : CyclicGroup). AreGroupOf g r x.rules.items) (same_Some _ _ (sym (there_is at) ∙ is)) sink.rules

    pub has_group : read ≡ get_or groups first read → read ≡ None → ⊥
    has_group at is = let some : None ≡ Some sink.group = sym is ∙ there_is at in cc

-- an entry that a comparison says is this one
pub same_entry : (entry : Option ℕ) (x : ℕ) → false ≡ not (option_eq eqb entry (Some x)) → entry ≡ Some x
same_entry None x is = absurd (true≢false (sym is))
same_entry (Some y) x is = ap Some (eqb-true y x (not-false (eqb y x) (sym is)))
