-- A search for a cycle, layer by layer: how it begins and ends, and that it finds a shortest cycle.
use Rattle.std.proofs.Common.{◌≡◌, ℕ, zero, suc, ◌+◌, ◌<◌, ◌≤◌, ◌⊎◌, inl, inr, List, [], ◌∷◌, ◌++◌, Option, Some, None, true, false, cond, is_none, is_some, Contains, length, get_or, replicate, reverse, arith, refl, sym, ap, ◌∙◌, subst, true≢false, Result, IfOk, MatchOption, Vec, Global, ◌==◌}
use Rattle.std.proofs.lemmas.Bool.{cases_lt, eqb-true}
use Rattle.std.proofs.lemmas.List.{get_or_default, get_or_past, length-replicate, length-reverse, length_push, reverse-append}
use Rattle.std.proofs.lemmas.Option.{same_Some}
use Rattle.std.proofs.lemmas.Result.{IfOk-weaker}
use Rattle.std.proofs.lemmas.List.Sums.{count_by-le-length, sum_by-set}
use Rattle.lemmas.proofs.Contained.{contains_first, contains_none, contains_one}
use Rattle.lemmas.proofs.Elements.{get_or-replicate_default}
use Rattle.cfgcycles.specs.declared.shortest.Found.{Found}
use Rattle.cfgcycles.specs.declared.step_paths.UnitStep.{UnitStep}
use Rattle.cfgcycles.specs.StepLists.{AreWithin, HasStep}
use Rattle.cfgcycles.specs.StepPaths.{IsCycle, IsShortestCycle, Leads}
use Rattle.cfgcycles.specs.Inner.Layers.{AreLayers, Finds, HaveLayers, InLayer, IsFound, IsPathTo, PathTo, noted, left}
use Rattle.cfgcycles.specs.Inner.Components.{Reaches}
use Rattle.cfgcycles.proofs.Layers.{before, in_some_layer, leads_on, next_layer, path_to_layer}

-- what is left to do: rules to find, and a layer to process
abbrev some : List ℕ → ℕ
some [] = 0
some (rule ∷ layer) = 1

abbrev pub left_to_do : List (Option Found) → List ℕ → ℕ
left_to_do table layer = left table + some layer

pub record Searching (steps : List (List UnitStep)) (first count : ℕ) (now : List (List UnitStep)) (table : List (Option Found)) (layer : List ℕ) : Type 0 where
  pub same : now ≡ steps
  pub shape : length table ≡ length steps
  pub are : AreLayers (HasStep steps) first count table layer
  pub room : 0 < length layer → count + left table ≤ length table

pub within_noted : (table : List (Option Found)) (rule : ℕ) (f : Found) → noted table rule ≡ Some f → rule < length table
within_noted table rule f e = elim (cases_lt rule (length table)) [
  | inl lt ↦ lt
  | inr past ↦ let same : None ≡ Some f = sym (get_or_past table rule None past) ∙ e in absurd (cc)
]

-- a rule that hasn't been found is one of those left
left_one : (table : List (Option Found)) (rule : ℕ) → rule < length table → noted table rule ≡ None → 0 < left table
left_one table rule within none =
    let found : Found = record { from = 0; step = record { rule = 0; production = 0; index = 0 }; length = 0 } in
    let e = sum_by-set (λ (o : Option Found). cond (is_none o) 1 0) table rule (Some found) None within in
    let z : ◌≡◌ {A = ℕ} (cond (is_none (noted table rule)) 1 0) 1 = ap (λ (o : Option Found). cond (is_none o) 1 0) none in
    omega (arith, e, z)

module _ (steps : List (List UnitStep)) (first : ℕ) where
  none_noted : (n rule : ℕ) (f : Found) → noted (replicate n None) rule ≡ Some f → ⊥
  none_noted n rule f e =
      let none : noted (replicate n None) rule ≡ None = get_or-replicate_default n rule None in
      let same : None ≡ Some f = sym none ∙ e in
      absurd (cc)

  nothing_found : AreLayers (HasStep steps) first 0 (replicate (length steps) None) (first ∷ [])
  nothing_found = record {
    has = λ rule f e. absurd (none_noted _ rule f e);
    previous = λ rule f e. absurd (none_noted _ rule f e);
    long = λ rule f e. absurd (none_noted _ rule f e);
    all = λ m rule le r. absurd (omega (arith, le));
    last = λ rule. (
      (λ h. inl (refl, sym (contains_one first rule h))),
      (λ h. elim h [ inl is ↦ subst (Contains (first ∷ [])) (sym is.1) (contains_first first []) | inr is ↦ absurd (omega (arith, is.0)) ]),
    );
  }

  pub begins : (now : List (List UnitStep)) (table : List (Option Found)) (layer : List ℕ) → now ≡ steps → table ≡ replicate (length steps) None
      → layer ≡ replicate 1 first → Searching steps first 0 now table layer
  begins now table layer same empty one = record {
    same = same;
    shape = ap length empty ∙ length-replicate (length steps) None;
    are = subst (λ t. AreLayers (HasStep steps) first 0 t layer) (sym empty)
        (subst (AreLayers (HasStep steps) first 0 (replicate (length steps) None)) (sym one) nothing_found);
    room = λ more. let all = count_by-le-length is_none table in omega (arith, all);
  }

  pub goes_on : (count : ℕ) (now now' : List (List UnitStep)) (table new : List (Option Found)) (layer after : List ℕ) → Searching steps first count now table layer
      → 0 < length layer → now' ≡ now → Finds (count + 1) (λ a step. Contains layer a × HasStep now a step) table [] new after
      → Searching steps first (count + 1) now' new after
  goes_on count now now' table new layer after s more same finds = record {
    same = same ∙ s.same;
    shape = finds.shape ∙ s.shape;
    are = subst (λ n. AreLayers (HasStep steps) first n new after) more_is
        (next_layer (HasStep steps) first count table layer s.are new after
        (subst (λ n. Finds n (λ a step. Contains layer a × HasStep steps a step) table [] new after) (sym more_is)
        (subst (λ l. Finds (count + 1) (λ a step. Contains layer a × HasStep l a step) table [] new after) s.same finds)));
    room = λ left. let shape = finds.shape in let once = finds.once in let room = s.room more in omega (arith, left, shape, once, room);
  }
    where
      more_is : suc count ≡ count + 1
      more_is = omega arith

  pub less_to_do : (count : ℕ) (Taken : ℕ → UnitStep → Type 0) (table new : List (Option Found)) (layer after : List ℕ) → 0 < length layer
      → Finds count Taken table [] new after → left_to_do new after < left_to_do table layer
  less_to_do count Taken table new layer after more finds = go layer after more finds.once
    where
      go : (layer after : List ℕ) → 0 < length layer → left new + length after ≡ left table + 0 → left_to_do new after < left_to_do table layer
      go [] after more once = absurd (omega (arith, more))
      go (rule ∷ layer) [] more once = let less : left new + 0 < left table + 1 = omega (arith, once) in less
      go (rule ∷ layer) (next ∷ after) more once =
          let two : left new + suc (length after) ≡ left table + 0 = once in
          let less : left new + 1 < left table + 1 = omega (arith, two) in
          less

  module _ (count : ℕ) (table : List (Option Found)) where
    further : AreLayers (HasStep steps) first count table [] → (n from : ℕ) (step : UnitStep) → HasStep steps from step → InLayer (HasStep steps) first table n from
        → (found : Found) × (noted table step.rule ≡ Some found)
    further are n from step has at = elim (cases_lt n count) [
      | inl lt ↦ let f = leads_on (HasStep steps) first count table [] are n from lt at step has in (f.0, f.1)
      | inr more ↦ absurd (contains_none from ((are.last from).1 (subst (λ k. InLayer (HasStep steps) first table k from) (same at more) at)))
    ]
      where
        same : InLayer (HasStep steps) first table n from → count ≤ n → n ≡ count
        same (inl h) more = omega (arith, h.0, more)
        same (inr h) more = let short = are.long from h.1.found h.1.is in omega (arith, more, short, h.1.long)

    -- once a layer is empty, each rule that a path leads to has been found
    pub all_found : AreLayers (HasStep steps) first count table [] → (m rule : ℕ) → PathTo (HasStep steps) first rule (suc m)
        → (found : Found) × (noted table rule ≡ Some found)
    all_found are zero rule r = let b = before (HasStep steps) first rule zero r in
        let at = in_some_layer (HasStep steps) first count table [] are zero b.from (omega arith) b.path in
        subst (λ k. (found : Found) × (noted table k ≡ Some found)) b.to (further are at.0 b.from b.step b.has at.2)
    all_found are (suc m) rule r =
        let b = before (HasStep steps) first rule (suc m) r in
        let f = all_found are m b.from b.path in
        let previous = are.previous b.from f.0 f.1 in
        subst (λ k. (found : Found) × (noted table k ≡ Some found)) b.to
        (further are f.0.length b.from b.step b.has (inr (omega (arith, previous.1), record { found = f.0; is = f.1; long = refl })))

    pub is_shortest : (layer : List ℕ) → AreLayers (HasStep steps) first count table layer → (path : List UnitStep) → IsPathTo (HasStep steps) first table first path
        → IsShortestCycle (HasStep steps) first path
    is_shortest layer are path is = record {
      itself = record { some = let b = are.previous first is.found is.is in omega (arith, b.1, is.long); leads = is.leads };
      least = λ other l. least other l.some l.leads;
    }
      where
        least : (other : List UnitStep) → 0 < length other → Leads (HasStep steps) first other first → length path ≤ length other
        least [] more leads = absurd (omega (arith, more))
        least (step ∷ other) more leads = elim (cases_lt (length other) count) [
          | inl lt ↦
              let f = are.all (length other) first lt (record { path = step ∷ other; leads = leads; long = refl }) in
              let same : f.0 ≡ is.found = same_Some _ _ (sym f.1 ∙ is.is) in
              let long : f.0.length ≡ is.found.length = ap (λ (g : Found). g.length) same in
              omega (arith, f.2, long, is.long)
          | inr ge ↦ let long = are.long first is.found is.is in omega (arith, ge, long, is.long)
        ]

-- a cycle that is read off, from its last step to its first
pub record ReadOff (steps : List (List UnitStep)) (table : List (Option Found)) (rule : ℕ) (last found : Found) (path : List UnitStep) : Type 0 where
  pub at : ℕ
  pub is : noted table at ≡ Some found
  pub leads : Leads (HasStep steps) found.from (reverse path) rule
  pub long : length path + found.length ≡ last.length + 1

module _ (steps : List (List UnitStep)) (table : List (Option Found)) (rule : ℕ) (h : HaveLayers (HasStep steps) rule table) (last : Found) where
  pub last_read : noted table rule ≡ Some last → (path : List UnitStep) → path ≡ last.step ∷ [] → ReadOff steps table rule last last path
  last_read is path one = record {
    at = rule;
    is = is;
    leads = subst (λ l. Leads (HasStep steps) last.from (reverse l) rule) (sym one) (h.are.has rule last is);
    long = let single : length path ≡ 1 = ap length one in omega (arith, single);
  }

  module _ (found : Found) (path : List UnitStep) (r : ReadOff steps table rule last found path) where
    -- what comes before a step that isn't the first one
    pub found_before : 1 < found.length → (m : ℕ) × (found.length ≡ suc m) × IsFound table found.from m
    found_before more = let b = h.are.previous r.at found r.is in (b.0, b.1, later b.2)
      where
        later : InLayer (HasStep steps) rule table (h.are.previous r.at found r.is).0 found.from → IsFound table found.from (h.are.previous r.at found r.is).0
        later (inl first) = let one = (h.are.previous r.at found r.is).1 in absurd (omega (arith, one, first.0, more))
        later (inr is) = is.1

    pub before_shorter : 1 < found.length → (before : Found) → noted table found.from ≡ Some before → before.length < found.length
    before_shorter more before is =
        let f = found_before more in
        let short : before.length ≡ f.0 = ap (λ (g : Found). g.length) (same_Some _ _ (sym is ∙ f.2.is)) ∙ f.2.long in
        omega (arith, short, f.1)

    pub none_noted_before : 1 < found.length → noted table found.from ≡ None → ⊥
    none_noted_before more none =
        let f = found_before more in
        let same : None ≡ Some f.2.found = sym none ∙ f.2.is in
        absurd (cc)

    pub before_within : 1 < found.length → found.from < length table
    before_within more = let f = (found_before more).2 in within_noted table found.from f.found f.is

    -- what the code reads for it
    pub before_seen : 1 < found.length → (o : Option Found) → o ≡ get_or table found.from o → noted table found.from ≡ o
    before_seen more o is = get_or_default table found.from None o (before_within more) ∙ sym is

    pub before_read : 1 < found.length → (before : Found) → noted table found.from ≡ Some before → (now : List UnitStep) → now ≡ path ++ before.step ∷ []
        → ReadOff steps table rule last before now
    before_read more before is now push =
        let f = found_before more in
        let same : before ≡ f.2.found = same_Some _ _ (sym is ∙ f.2.is) in
        let short : before.length ≡ f.0 = ap (λ (g : Found). g.length) same ∙ f.2.long in
        let has = h.are.has found.from before is in
        record {
          at = found.from;
          is = is;
          leads = subst (λ l. Leads (HasStep steps) before.from l rule) (sym (ap reverse push ∙ reverse-append path (before.step ∷ [])))
              (has.0, subst (λ n. Leads (HasStep steps) n (reverse path) rule) (sym has.1) r.leads);
          long = let one = ap length push ∙ length_push path before.step in omega (arith, one, short, f.1, r.long);
        }

    pub all_read : found.length ≤ 1 → noted table rule ≡ Some last → (now : List UnitStep) → now ≡ reverse path → IsPathTo (HasStep steps) rule table rule now
    all_read few is now turned =
        let b = h.are.previous r.at found r.is in
        record {
          found = last;
          is = is;
          leads = subst (λ l. Leads (HasStep steps) rule l rule) (sym turned) (subst (λ n. Leads (HasStep steps) n (reverse path) rule) (first b.0 b.1 b.2) r.leads);
          long = let same = ap length turned ∙ length-reverse path in omega (arith, same, r.long, b.1, few);
        }
      where
        first : (m : ℕ) → found.length ≡ suc m → InLayer (HasStep steps) rule table m found.from → found.from ≡ rule
        first m long (inl is) = is.1
        first m long (inr is) = absurd (omega (arith, long, is.0, few))

module _ (steps : List (List UnitStep)) (rule : ℕ) (within : rule < length steps) (inside : AreWithin steps) (count : ℕ) (now : List (List UnitStep))
    (table : List (Option Found)) (layer : List ℕ) (s : Searching steps rule count now table layer) where
  pub rule_noted : rule < length table
  rule_noted = subst (λ n. rule < n) (sym s.shape) within

  pub have_layers : HaveLayers (HasStep now) rule table
  have_layers = record { count = count; layer = layer; are = subst (λ l. AreLayers (HasStep l) rule count table layer) (sym s.same) s.are }

  -- rules of a layer are rules
  pub layer_within : (a : ℕ) → Contains layer a → a < length now
  layer_within a h = subst (λ l. a < length l) (sym s.same) (elim ((s.are.last a).0 h) [
    | inl is ↦ subst (λ n. n < length steps) (sym is.1) within
    | inr is ↦ subst (λ n. a < n) s.shape (within_noted table a is.1.found is.1.is)
  ])

  -- while the rule hasn't been found, there is at least one rule to find
  pub count_fits : 0 < length layer → noted table rule ≡ None → count + 1 ≤ length table
  count_fits more none =
      let room = s.room more in
      let one = left_one table rule rule_noted none in
      omega (arith, room, one)

  pub no_cycle : layer ≡ [] → noted table rule ≡ None → (path : List UnitStep) → IsCycle (HasStep steps) rule path → ⊥
  no_cycle empty none path l = go path l.some l.leads
    where
      go : (path : List UnitStep) → 0 < length path → Leads (HasStep steps) rule path rule → ⊥
      go [] more leads = omega (arith, more)
      go (step ∷ path) more leads =
          let f = all_found steps rule count table (subst (AreLayers (HasStep steps) rule count table) empty s.are) (length path) rule
          (record { path = step ∷ path; leads = leads; long = refl }) in
          let same : None ≡ Some f.0 = sym none ∙ f.1 in
          absurd (cc)

  pub cycle_shortest : (path : List UnitStep) → IsPathTo (HasStep now) rule table rule path → IsShortestCycle (HasStep steps) rule path
  cycle_shortest path is = is_shortest steps rule count table layer s.are path (subst (λ l. IsPathTo (HasStep l) rule table rule path) s.same is)

  -- a path leads to each rule that was found
  pub found_reached : (other : ℕ) (f : Found) → noted table other ≡ Some f → Reaches (HasStep steps) rule other
  found_reached other f is =
      let b = s.are.previous other f is in
      let r = path_to_layer (HasStep steps) rule count table layer s.are f.length other (inr (omega (arith, b.1), record { found = f; is = is; long = refl })) in
      (r.path, r.leads)

  -- how the search ends: at an empty layer, or when the rule is found
  pub ends : {E : Type 0} (result : Result (Option (Vec UnitStep Global)) E) → (layer ≡ []) ⊎ (is_some (noted table rule) ≡ true)
      → IfOk result (λ found. MatchOption found (noted table rule ≡ None) (λ path. IsPathTo (HasStep now) rule table rule path.items))
      → IfOk result (λ found. MatchOption found ((path : List UnitStep) → IsCycle (HasStep steps) rule path → ⊥) (λ path. IsShortestCycle (HasStep steps) rule path.items))
  ends result at h = IfOk-weaker result _ _ reported h
    where
      reported : (found : Option (Vec UnitStep Global)) → MatchOption found (noted table rule ≡ None) (λ path. IsPathTo (HasStep now) rule table rule path.items)
          → MatchOption found ((path : List UnitStep) → IsCycle (HasStep steps) rule path → ⊥) (λ path. IsShortestCycle (HasStep steps) rule path.items)
      reported None none = elim at [
        | inl empty ↦ no_cycle empty none
        | inr found ↦ let not : is_some (noted table rule) ≡ false = ap is_some none in absurd (true≢false (sym found ∙ not))
      ]
      reported (Some path) is = cycle_shortest path.items is

pub not_noted : (o : Option Found) → is_some o ≡ false → o ≡ None
not_noted None e = refl
not_noted (Some f) e = absurd (true≢false e)

pub some_layer : (layer : List ℕ) (n : ℕ) → n ≡ length layer → (n == 0) ≡ false → 0 < length layer
some_layer [] n is e = absurd (true≢false (ap (λ n. n == 0) (sym is) ∙ e))
some_layer (rule ∷ layer) n is e = omega arith

pub no_layer : (layer : List ℕ) (n : ℕ) → n ≡ length layer → (n == 0) ≡ true → layer ≡ []
no_layer [] n is e = refl
no_layer (rule ∷ layer) n is e = let none : n ≡ 0 = eqb-true n 0 e in absurd (omega (arith, is, none))
