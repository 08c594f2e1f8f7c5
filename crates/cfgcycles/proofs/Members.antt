-- The steps inside components, and the groups of cyclic rules that these give.
use Rattle.std.proofs.Common.{◌≡◌, ℕ, zero, suc, ◌+◌, ◌<◌, ◌≤◌, inl, inr, List, [], ◌∷◌, ◌++◌, Option, Some, None, Contains, get_or, length, replicate, slice_get, slice_index, slice_set, take, arith, refl, sym, ap, ◌∙◌, subst, get_or-set_same, get_or-set_other, length-append}
use Rattle.std.specs.List.Sorted.{IsStrictlyIncreasing}
use Rattle.std.proofs.lemmas.Bool.{cases_eq, cases_lt}
use Rattle.std.proofs.lemmas.List.{get_or_append_left, get_or_default, get_or_past, get_or_push, length_push}
use Rattle.std.proofs.lemmas.List.Elements.{Contains-append_left, Contains-get_or, Contains-push, Contains-push_cases}
use Rattle.std.proofs.lemmas.Option.{get_or_from_slice_get, slice_get-get_or}
use Rattle.lemmas.proofs.Contained.{contains_none}
use Rattle.lemmas.proofs.Elements.{get_or-replicate_default}
use Rattle.lemmas.proofs.Taken.{contains_taken}
use Rattle.cfgcycles.specs.declared.groups.CyclicGroup.{CyclicGroup}
use Rattle.cfgcycles.specs.declared.step_paths.UnitStep.{UnitStep}
use Rattle.cfgcycles.specs.CyclicGroups.{IsGroup, IsGroupOf, LeadsTo, OnCommonCycle}
use Rattle.cfgcycles.specs.StepLists.{AreWithin, HasStep}
use Rattle.cfgcycles.specs.StepPaths.{Leads}
use Rattle.search.specs.Components.{AreComponents, AreMembers}
use Rattle.cfgcycles.specs.Inner.Components.{Reaches, StepsTo}
use Rattle.cfgcycles.specs.Inner.Members.{AreInner, IsGroupAmong}
use Rattle.cfgcycles.specs.Inner.Putting.{ArePut}
use Rattle.cfgcycles.proofs.Putting.{put_as, put_none, put_one, put_then}
use Rattle.cfgcycles.proofs.Reaching.{leads_through, path_there, reached_along, reaches_by, reaches_itself, reaches_through}

-- the first of ascending numbers is the least
head_least : (xs : List ℕ) → IsStrictlyIncreasing xs → (x : ℕ) → Contains xs x → slice_index xs 0 ≤ x
head_least xs ascending x (k, within, at) = subst (λ y. slice_index xs 0 ≤ y) (number xs k x within at) (go k within)
  where
    number : (xs : List ℕ) (k x : ℕ) → k < length xs → get_or xs k x ≡ x → slice_index xs k ≡ x
    number xs k x within at = get_or_from_slice_get xs k x 0 (slice_get-get_or xs k x within ∙ ap Some at)

    go : (k : ℕ) → k < length xs → slice_index xs 0 ≤ slice_index xs k
    go zero lt = omega arith
    go (suc k) lt =
        let before = go k (omega (arith, lt)) in
        let next : slice_index xs k < slice_index xs (suc k) = let e : k + 1 ≡ suc k = omega arith in subst (λ n. slice_index xs k < slice_index xs n) e (ascending k (omega (arith, lt))) in
        omega (arith, before, next)

-- the rules with the number that was read
pub members_at : (numbers : List ℕ) (n rule number : ℕ) (members : List (List ℕ)) (list : List ℕ) → rule < length numbers → number ≡ get_or numbers rule number
    → list ≡ get_or members number [] → ((c : ℕ) → AreMembers numbers n c (get_or members c [])) → AreMembers numbers n (slice_index numbers rule) list
members_at numbers n rule number members list lt at is are = subst (AreMembers numbers n (slice_index numbers rule))
    (sym (is ∙ ap (λ c. get_or members c []) (at ∙ get_or_default numbers rule number 0 lt))) (are (slice_index numbers rule))

-- what is true of each entry below, and of one more
pub one_more_entry : {A : Type 0} (Is : ℕ → A → Type 0) (table now : List A) (none entry : A) (rule : ℕ) → now ≡ table ++ entry ∷ [] → length table ≡ rule
    → ((k : ℕ) → k < rule → Is k (get_or table k none)) → Is rule entry → (k : ℕ) → k < rule + 1 → Is k (get_or now k none)
one_more_entry Is table now none entry rule is long below here k less = subst (λ l. Is k (get_or l k none)) (sym is) (elim (cases_lt k rule) [
  | inl lt ↦ subst (Is k) (sym (get_or_append_left table (entry ∷ []) none k (omega (arith, lt, long)))) (below k lt)
  | inr past ↦
      let same : k ≡ rule = omega (arith, past, less) in
      subst (Is k) (sym (get_or_push table entry none k (long ∙ sym same))) (subst (λ n. Is n entry) (sym same) here)
])

-- the steps of one rule, one by one
module _ (numbers : List ℕ) (rule : ℕ) (path : List UnitStep) where
  abbrev IsSame : UnitStep → Type 0
  IsSame step = slice_index numbers rule ≡ slice_index numbers step.rule

  pub inner_put : (old : List (List UnitStep)) (step : UnitStep) → rule < length old → IsSame step
      → ArePut (λ a s. (a ≡ rule) × (s ≡ step) × IsSame s) old (slice_set old rule (get_or old rule [] ++ step ∷ []))
  inner_put old step within same = put_as _ _ old (slice_set old rule (get_or old rule [] ++ step ∷ [])) (λ a s h. (h.0, h.1, subst IsSame (sym h.1) same)) (λ a s h. (h.0, h.1))
      (put_one old rule step within)

  pub inner_left_out : (old : List (List UnitStep)) (step : UnitStep) → (IsSame step → ⊥) → ArePut (λ a s. (a ≡ rule) × (s ≡ step) × IsSame s) old old
  inner_left_out old step differs = put_none _ old (λ a s h. differs (subst IsSame h.1 h.2))

  pub inner_more : (i : ℕ) (step : UnitStep) (old mid new : List (List UnitStep)) → i < length path → step ≡ get_or path i step
      → ArePut (λ a s. (a ≡ rule) × Contains (take i path) s × IsSame s) old mid
      → ArePut (λ a s. (a ≡ rule) × (s ≡ step) × IsSame s) mid new
      → ArePut (λ a s. (a ≡ rule) × Contains (take (i + 1) path) s × IsSame s) old new
  inner_more i step old mid new lt at before here = put_as _ _ old new
      (λ a s h. elim h [
        | inl w ↦ (w.0, (contains_taken path i step lt at s).1 (inl w.1), w.2)
        | inr w ↦ (w.0, (contains_taken path i step lt at s).1 (inr w.1), w.2)
      ])
      (λ a s h. elim ((contains_taken path i step lt at s).0 h.1) [
        | inl c ↦ inl (h.0, c, h.2)
        | inr same ↦ inr (h.0, same, h.2)
      ])
      (put_then _ _ old mid new before here)

module _ (steps : List (List UnitStep)) where
  -- a rule that has a step is one of those that have lists
  pub has_list : (rule : ℕ) (step : UnitStep) → HasStep steps rule step → rule < length steps
  has_list rule step h = elim (cases_lt rule (length steps)) [
    | inl lt ↦ lt
    | inr past ↦ absurd (contains_none step (subst (λ l. Contains l step) (get_or_past steps rule [] past) h))
  ]

  module _ (numbers : List ℕ) where
    -- the steps of the first rules
    abbrev pub AreFirstInner : ℕ → List (List UnitStep) → Type 0
    AreFirstInner i = ArePut (λ a step. (a < i) × HasStep steps a step × (slice_index numbers a ≡ slice_index numbers step.rule)) (replicate (length steps) [])

    pub next_inner : (i : ℕ) (path : List UnitStep) (mid new : List (List UnitStep)) → path ≡ get_or steps i [] → AreFirstInner i mid
        → ArePut (λ a step. (a ≡ i) × Contains path step × (slice_index numbers i ≡ slice_index numbers step.rule)) mid new → AreFirstInner (i + 1) new
    next_inner i path mid new is before here = put_as _ _ (replicate (length steps) []) new
        (λ a step h. elim h [
          | inl w ↦ (omega (arith, w.0), w.1, w.2)
          | inr w ↦ (
            omega (arith, w.0),
            subst (λ n. HasStep steps n step) (sym w.0) (subst (λ l. Contains l step) is w.1),
            ap (slice_index numbers) w.0 ∙ w.2,
          )
        ])
        (λ a step h. elim (cases_lt a i) [
          | inl lt ↦ inl (lt, h.1, h.2)
          | inr past ↦
              let this : a ≡ i = omega (arith, past, h.0) in
              inr (this, subst (λ l. Contains l step) (sym is) (subst (λ n. HasStep steps n step) this h.1), ap (slice_index numbers) (sym this) ∙ h.2)
        ])
        (put_then _ _ (replicate (length steps) []) mid new before here)

    pub all_inner : (i : ℕ) (inner : List (List UnitStep)) → AreFirstInner i inner → length steps ≤ i → AreInner steps numbers inner
    all_inner i inner first end rule step = (
      (λ h. elim ((first.steps rule step).0 h) [
        | inl none ↦ absurd (contains_none step (subst (λ l. Contains l step) (get_or-replicate_default (length steps) rule []) none))
        | inr w ↦ (w.1, w.2)
      ]),
      (λ h. let lt = has_list rule step h.0 in (first.steps rule step).1 (inr (omega (arith, lt, end), h.0, h.1))),
    )

    module _ (inner : List (List UnitStep)) (within : AreWithin steps) (lists : List (List ℕ)) (are : AreComponents (StepsTo steps) (length steps) numbers lists)
        (among : AreInner steps numbers inner) where
      inner_leads : (a : ℕ) (path : List UnitStep) (b : ℕ) → Leads (HasStep inner) a path b → Leads (HasStep steps) a path b
      inner_leads a [] b l = l
      inner_leads a (step ∷ path) b l = (((among a step).0 l.0).0, inner_leads step.rule path b l.1)

      same_number : (a : ℕ) (path : List UnitStep) (b : ℕ) → Leads (HasStep inner) a path b → slice_index numbers a ≡ slice_index numbers b
      same_number a [] b l = ap (slice_index numbers) l
      same_number a (step ∷ path) b l = ((among a step).0 l.0).1 ∙ same_number step.rule path b l.1

      inside : (a : ℕ) (path : List UnitStep) (b : ℕ) → Leads (HasStep steps) a path b → a < length steps → b < length steps
      inside a [] b l lt = subst (λ n. n < length steps) l lt
      inside a (step ∷ path) b l lt = inside step.rule path b l.1 (within a step l.0)

      -- a path back to where it can be reached from stays in the component
      stays : (rule a : ℕ) (path : List UnitStep) → Leads (HasStep steps) a path rule → Reaches (HasStep steps) rule a → Leads (HasStep inner) a path rule
      stays rule a [] l there = l
      stays rule a (step ∷ path) l there =
          let on = reaches_by (HasStep steps) a step l.0 in
          let back = reaches_through (HasStep steps) step.rule rule a (path, l.1) there in (
            (among a step).1 (l.0, (are.same a step.rule (has_list a step l.0) (within a step l.0)).1 (reached_along steps a step.rule on, reached_along steps step.rule a back)),
            stays rule step.rule path l.1 (reaches_through (HasStep steps) rule a step.rule there on),
          )

      module _ (rule : ℕ) (lt : rule < length steps) (rules : List ℕ) (members : AreMembers numbers (length steps) (slice_index numbers rule) rules) where
        pub reached_member : (other : ℕ) → Reaches (HasStep inner) rule other → Contains rules other
        reached_member other r = (members.all other).1
            (inside rule r.0 other (inner_leads rule r.0 other r.1) lt, sym (same_number rule r.0 other r.1))

        pub member_within : (other : ℕ) → Contains rules other → other < length steps
        member_within other c = ((members.all other).0 c).0

        -- a cyclic rule is on a common cycle with each rule of its component
        together : LeadsTo (HasStep steps) rule rule → (other : ℕ) → Contains rules other → OnCommonCycle (HasStep steps) rule other
        together cycle other c =
            let w = (members.all other).0 c in
            let there = path_there steps rule other ((are.same rule other lt w.0).0 (sym w.1)).0 in
            let back = path_there steps other rule ((are.same other rule w.0 lt).0 w.1).0 in
            record {
              there = record {
                path = cycle.path ++ there.0;
                some = let some = cycle.some in omega (arith, some, length-append cycle.path there.0);
                leads = leads_through (HasStep steps) rule cycle.path rule there.0 other cycle.leads there.1;
              };
              back = record {
                path = back.0 ++ cycle.path;
                some = let some = cycle.some in omega (arith, some, length-append back.0 cycle.path);
                leads = leads_through (HasStep steps) other back.0 rule cycle.path rule back.1 cycle.leads;
              };
            }

        joined : (other : ℕ) → OnCommonCycle (HasStep steps) rule other → Contains rules other
        joined other h = (members.all other).1 (
          inside rule h.there.path other h.there.leads lt,
          (are.same other rule (inside rule h.there.path other h.there.leads lt) lt).1
              (reached_along steps other rule (h.back.path, h.back.leads), reached_along steps rule other (h.there.path, h.there.leads)),
        )

        own : Contains rules rule
        own = (members.all rule).1 (lt, refl)

        at_head : (x : ℕ) → slice_index rules 0 ≡ x → slice_get rules 0 ≡ Some x
        at_head x is = slice_get-get_or rules 0 0 (some rules own) ∙ ap Some is
          where
            some : (xs : List ℕ) → Contains xs rule → 0 < length xs
            some xs c = omega (arith, c.1)

        head_in : Contains rules (slice_index rules 0)
        head_in = Contains-get_or rules 0 0 (omega (arith, own.1))

        pub group_is : (found : Option CyclicGroup) → IsGroupAmong (HasStep inner) rule rules found → IsGroupOf (HasStep steps) rule found
        group_is None none = λ first.
            let cycle = first.cyclic.there in
            let least = first.least (slice_index rules 0) (together cycle (slice_index rules 0) head_in) in
            let head = head_least rules members.ascending rule own in
            none (at_head rule (omega (arith, least, head))) cycle.path
            (record { some = cycle.some; leads = stays rule rule cycle.path cycle.leads (reaches_itself (HasStep steps) rule) })
        group_is (Some group) h = subst (λ l. IsGroup (HasStep steps) rule l group.cycle.items) (sym h.1) (record {
          ascending = members.ascending;
          all = λ other. (together cycle other, joined other);
          least = λ other c. subst (λ n. n ≤ other) (get_or_from_slice_get rules 0 rule 0 h.0) (head_least rules members.ascending other c);
          shortest = record {
            itself = record { some = h.2.itself.some; leads = cycle.leads };
            least = λ path is. h.2.least path (record { some = is.some; leads = stays rule rule path is.leads (reaches_itself (HasStep steps) rule) });
          };
        })
          where
            cycle : LeadsTo (HasStep steps) rule rule
            cycle = record { path = group.cycle.items; some = h.2.itself.some; leads = inner_leads rule group.cycle.items rule h.2.itself.leads }
