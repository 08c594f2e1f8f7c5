-- Rules whose only optimal production is a chain production have the minimal sentences of the rule that it leads to.
use Rattle.std.proofs.Common.{◌≡◌, ◌↔◌, ℕ, ◌+◌, ◌<◌, ◌≤◌, ◌⊎◌, inl, inr, List, [], ◌∷◌, ◌++◌, Option, Some, None, Contains, length, get_or, slice_set, take, refl, sym, ap, subst, ◌∙◌, length-set}
use Rattle.std.specs.Prelude.{IfSome, MatchOption}
use Rattle.std.specs.Option.{unwrap_or}
use Rattle.std.proofs.lemmas.List.{length-map, map-set, take_all, take_more}
use Rattle.std.proofs.lemmas.List.Elements.{All-get_or, All-set, Contains-append_left, Contains-push, Contains-push_cases}
use Rattle.lemmas.proofs.Elements.{get_or-set}
use Rattle.cfgindex.specs.declared.idxnewtype.RIdx.{RIdx}
use Rattle.derivation.specs.Grammar.{Grammar, IsGrammar}
use Rattle.cfgtables.specs.Openings.{nth_production, ArePositionsOf}
use Rattle.cfgleast.specs.Generator.{CostTables, IsGenerator, cost_answer}
use Rattle.derivation.proofs.Sequences.{item_shown}
use Rattle.cfgcosts.specs.Inner.Targets.{AreTargets, HasSameSentences, LeadsOnlyTo, rules_of}
use Rattle.cfgchoices.specs.Kinds.{HasRulesAsTargets, AreKinds, LeadsTo, IsChain, IsKind, IsOptimal, IsMinimal, ReachesBase}
use Rattle.cfgchoices.specs.Chains.{Along, here, next}
use Rattle.cfgchoices.specs.declared.kinds.Kind.{Kind}
use Rattle.cfgchoices.specs.declared.kinds.Kind.TheVariants.{Suboptimal, Chain}
use Rattle.cfgchoices.proofs.Optimal.{base_leads_nowhere, base_makes, minimal_made, one_target}

-- what the first of some productions leads to
module _ {S : Type 0} (kinds : List (Kind S)) where
  pub record One (positions : List ℕ) (target : RIdx S) : Type 0 where
    pub index : ℕ
    pub among : Contains positions index
    pub kind : get_or kinds index Suboptimal ≡ Chain target
    pub others : (p : ℕ) → Contains positions p → (p ≡ index) ⊎ (get_or kinds p Suboptimal ≡ Suboptimal)

  abbrev pub OnlyOne : List ℕ → Option (RIdx S) → Type 0
  OnlyOne positions only = MatchOption only ((p : ℕ) → Contains positions p → get_or kinds p Suboptimal ≡ Suboptimal) (One positions)

  module _ (positions : List ℕ) (n p : ℕ) (lt : n < length positions) (is : p ≡ get_or positions n p) where
    longer : take (n + 1) positions ≡ take n positions ++ p ∷ []
    longer = take_more positions n p lt ∙ ap (λ q. take n positions ++ (q ∷ [])) (sym is)

    pub only_suboptimal : (only : Option (RIdx S)) → OnlyOne (take n positions) only → get_or kinds p Suboptimal ≡ Suboptimal → OnlyOne (take (n + 1) positions) only
    only_suboptimal only h suboptimal = subst (λ l. OnlyOne l only) (sym longer) (go only h)
      where
        go : (only : Option (RIdx S)) → OnlyOne (take n positions) only → OnlyOne (take n positions ++ p ∷ []) only
        go None h = λ q among. elim (Contains-push_cases (take n positions) p q among) [
          | inl i ↦ h q i
          | inr e ↦ subst (λ q. get_or kinds q Suboptimal ≡ Suboptimal) e suboptimal
        ]
        go (Some target) h = record {
          index = h.index;
          among = Contains-append_left (take n positions) (p ∷ []) h.index h.among;
          kind = h.kind;
          others = λ q among. elim (Contains-push_cases (take n positions) p q among) [
            | inl i ↦ h.others q i
            | inr e ↦ inr (subst (λ q. get_or kinds q Suboptimal ≡ Suboptimal) e suboptimal)
          ];
        }

    pub only_found : (only : Option (RIdx S)) (target : RIdx S) → only ≡ None → OnlyOne (take n positions) only → get_or kinds p Suboptimal ≡ Chain target → OnlyOne (take (n + 1) positions) (Some target)
    only_found only target none h chains =
        let all = subst (OnlyOne (take n positions)) none h in
        subst (λ l. One l target) (sym longer) (record {
          index = p;
          among = Contains-push (take n positions) p;
          kind = chains;
          others = λ q among. elim (Contains-push_cases (take n positions) p q among) [ inl i ↦ inr (all q i) | inr e ↦ inl (sym e) ];
        })

-- links one after the other
pub along_both : {Link : ℕ → ℕ → Type 0} {a b c : ℕ} → Along Link a b → Along Link b c → Along Link a c
along_both here k = k
along_both (next h l) k = next h (along_both l k)

module _ {S : Type 0} (number : S → ℕ) (g : Grammar) (kinds : List (Kind S)) where
  pub only_ends : (positions : List ℕ) (n r : ℕ) (only : Option (RIdx S)) → length positions ≤ n → ArePositionsOf g r positions → OnlyOne kinds (take n positions) only
      → IfSome only (λ target. LeadsOnlyTo number g kinds r (number target.0))
  only_ends positions n r None past are h = tt
  only_ends positions n r (Some target) past are h =
      let one = subst (λ l. One kinds l target) (take_all n positions past) h in
      let within = subst (λ p. p < length g.productions) one.among.2 (All-get_or (λ p. p < length g.productions) positions one.among.0 one.index one.among.1 are.within) in
      record {
        index = one.index;
        within = within;
        owner = (are.listed one.index within).0 one.among;
        target = target;
        kind = one.kind;
        is = refl;
        others = λ p inside owner. one.others p ((are.listed p inside).1 owner);
      }

  -- for a rule the rule that its only optimal production leads to, or the rule itself
  pub only_or_itself : (r : ℕ) (rule : RIdx S) (only : Option (RIdx S)) → HasRulesAsTargets number g kinds → number rule.0 ≡ r → r < g.rules
      → IfSome only (λ target. LeadsOnlyTo number g kinds r (number target.0))
      → Along (LeadsOnlyTo number g kinds) r (number (unwrap_or only rule).0) × (number (unwrap_or only rule).0 < g.rules)
  only_or_itself r rule None rules e lt h = (subst (Along (LeadsOnlyTo number g kinds) r) (sym e) here, subst (λ m. m < g.rules) (sym e) lt)
  only_or_itself r rule (Some target) rules e lt h = (next h here, subst (λ m. m < g.rules) h.is (rules h.index h.target h.kind))

  -- the entry of a rule's entry
  pub targets_gone_on : (targets : List ℕ) (r target after : ℕ) → r < length targets → target ≡ get_or targets r 0 → after ≡ get_or targets target 0 → AreTargets number g kinds targets
      → AreTargets number g kinds (slice_set targets r after)
  targets_gone_on targets r target after lt at then are =
      let inside = subst (λ m. m < length targets) (sym at) (subst (λ m. get_or targets r 0 < m) (sym are.all) (All-get_or (λ h. h < g.rules) targets r 0 lt are.within)) in
      let far = subst (λ m. m < g.rules) (sym then) (All-get_or (λ h. h < g.rules) targets target 0 inside are.within) in
      let both = along_both (subst (Along (LeadsOnlyTo number g kinds) r) (sym at) (are.each r lt)) (subst (Along (LeadsOnlyTo number g kinds) target) (sym then) (are.each target inside)) in
      record {
        all = length-set targets r after ∙ are.all;
        within = All-set (λ h. h < g.rules) targets r after far are.within;
        each = λ q within. elim (get_or-set targets r q after 0) [
          | inl e ↦ subst (Along (LeadsOnlyTo number g kinds) q) (sym e) (are.each q (subst (λ m. q < m) (length-set targets r after) within))
          | inr h ↦ subst (Along (LeadsOnlyTo number g kinds) q) (sym h.1) (subst (λ m. Along (LeadsOnlyTo number g kinds) m after) (sym h.0) both)
        ];
      }

-- the same in the code's list
module _ {S : Type 0} (number : S → ℕ) (targets : List (RIdx S)) (r i : ℕ) (target : RIdx S) (lt : r < length targets) (at : target ≡ get_or targets r target) (is : i ≡ number target.0) where
  located : r < length (rules_of number targets)
  located = subst (λ m. r < m) (sym (length-map targets (λ (h : RIdx S). number h.0))) lt

  first : get_or (rules_of number targets) r 0 ≡ number target.0
  first = item_shown (λ (h : RIdx S). number h.0) targets (rules_of number targets) r target 0 refl located at

  module _ (g : Grammar) (kinds : List (Kind S)) (are : AreTargets number g kinds (rules_of number targets)) where
    pub target_within : i < length targets
    target_within = subst (λ m. m < length targets) (first ∙ sym is) (subst (λ n. get_or (rules_of number targets) r 0 < n) (sym are.all ∙ length-map targets (λ (h : RIdx S). number h.0))
        (All-get_or (λ h. h < g.rules) (rules_of number targets) r 0 located are.within))

    pub gone_on : (after : RIdx S) → after ≡ get_or targets i after → AreTargets number g kinds (rules_of number (slice_set targets r after))
    gone_on after then =
        let second = subst (λ m. get_or (rules_of number targets) m 0 ≡ number after.0) is
        (item_shown (λ (h : RIdx S). number h.0) targets (rules_of number targets) i after 0 refl (subst (λ m. i < m) (sym (length-map targets (λ (h : RIdx S). number h.0))) target_within) then) in
        subst (AreTargets number g kinds) (sym (map-set (λ (h : RIdx S). number h.0) targets r after))
        (targets_gone_on number g kinds (rules_of number targets) r (number target.0) (number after.0) located (sym first) (sym second) are)

module _ {S : Type 0} (number : S → ℕ) (x : CostTables) (kinds : List (Kind S)) (are : AreKinds number x kinds) where
  kind_is : (p : ℕ) (kind : Kind S) → p < length x.grammar.productions → get_or kinds p Suboptimal ≡ kind → IsKind number x p kind
  kind_is p kind within e = subst (IsKind number x p) e (are.each p (subst (λ m. p < m) (sym are.all) within))

  only_target : (r q : ℕ) (h : LeadsOnlyTo number x.grammar kinds r q) → IsChain x h.index q
  only_target r q h = subst (IsChain x h.index) h.is (kind_is h.index (Chain h.target) h.within h.kind)

  only_cost : (r q : ℕ) → (h : LeadsOnlyTo number x.grammar kinds r q) → cost_answer x r ≡ Some (only_target r q h).optimal.cost
  only_cost r q h = ap (cost_answer x) (sym h.owner) ∙ (only_target r q h).optimal.rule

  -- an optimal production of the rule leads to that rule
  only_optimal : (r q p : ℕ) → LeadsOnlyTo number x.grammar kinds r q → (nth_production x.grammar p).rule ≡ r → IsOptimal x p → IsChain x p q
  only_optimal r q p h owner optimal = elim (h.others p optimal.index owner) [
    | inl same ↦ subst (λ m. IsChain x m q) (sym same) (only_target r q h)
    | inr suboptimal ↦ absurd (kind_is p Suboptimal optimal.index suboptimal optimal)
  ]

  module _ (n : ℕ) (is : IsGenerator x n) (grammar : IsGrammar x.grammar) where
    reaches_target : (r q p : ℕ) → LeadsOnlyTo number x.grammar kinds r q → ReachesBase x r p → ReachesBase x q p
    reaches_target r q p h reaches = record { leads = go refl reaches.leads; base = reaches.base }
      where
        go : {a : ℕ} → a ≡ r → Along (LeadsTo x) a (nth_production x.grammar p).rule → Along (LeadsTo x) q (nth_production x.grammar p).rule
        go e here = absurd (base_leads_nowhere x n is grammar p q reaches.base (only_optimal r q p h e reaches.base.optimal))
        go e (next {b = b} link rest) =
            let same = one_target x n is grammar link.index b q link.target (only_optimal r q link.index h (link.owner ∙ e) link.target.optimal) in
            subst (λ m. Along (LeadsTo x) m (nth_production x.grammar p).rule) same rest

    only_same : (r q : ℕ) → LeadsOnlyTo number x.grammar kinds r q → (w : List ℕ) → IsMinimal x q w ↔ IsMinimal x r w
    only_same r q h w =
        let target = only_target r q h in (
          (λ m. let made = minimal_made x n is grammar q target.optimal.cost w target.same target.optimal.positive m in
              base_makes x n is grammar r made.index w (record { leads = next (record { index = h.index; owner = h.owner; target = target }) made.reaches.leads; base = made.reaches.base }) made.parts),
          (λ m. let made = minimal_made x n is grammar r target.optimal.cost w (only_cost r q h) target.optimal.positive m in
              base_makes x n is grammar q made.index w (reaches_target r q made.index h made.reaches) made.parts),
        )

    -- so do rules from which a chain of such productions leads to it
    last_same : {r q : ℕ} → Along (LeadsOnlyTo number x.grammar kinds) r q → (w : List ℕ) → IsMinimal x q w ↔ IsMinimal x r w
    last_same here w = (λ m. m, λ m. m)
    last_same (next {a = a} {b = b} h k) w =
        let rest = last_same k w in
        let one = only_same a b h w in
        (λ m. one.0 (rest.0 m), λ m. rest.1 (one.1 m))

  last_cost : {r q : ℕ} → Along (LeadsOnlyTo number x.grammar kinds) r q → cost_answer x q ≡ cost_answer x r
  last_cost here = refl
  last_cost (next {a = a} {b = b} h k) = last_cost k ∙ (only_target a b h).same ∙ sym (only_cost a b h)

  pub target_same : (n : ℕ) → IsGenerator x n → IsGrammar x.grammar → (targets : List ℕ) (r : ℕ) → AreTargets number x.grammar kinds targets → r < length targets
      → HasSameSentences x r (get_or targets r 0)
  target_same n is grammar targets r targets_are lt = record {
    rule = All-get_or (λ h. h < x.grammar.rules) targets r 0 lt targets_are.within;
    cost = last_cost (targets_are.each r lt);
    same = last_same n is grammar (targets_are.each r lt);
  }
