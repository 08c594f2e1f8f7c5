-- What a search has found when it has gone on from the first nodes that it found.
use Rattle.std.proofs.Common.{◌≡◌, inl, inr, ℕ, ◌+◌, ◌<◌, ◌≤◌, List, [], ◌++◌, None, Some, Contains, length, slice_get, sym, ap, subst, ◌∙◌, arith}
use Rattle.std.proofs.lemmas.Bool.{cases_lt}
use Rattle.std.proofs.lemmas.List.Elements.{Contains-append_cases}
use Rattle.std.proofs.lemmas.Option.{slice_get-get_or, slice_get_within}
use Rattle.search.specs.Reachable.{led, seed}
use Rattle.search.proofs.PathGroups.{contains_there, slice_get_cases, slice_get_left}
use Rattle.lr_conflicts.specs.declared.examples.nodes.Node.{Node}
use Rattle.lr_conflicts.specs.declared.examples.nodes.Step.{Step}
use Rattle.lr_conflicts.specs.Inner.Ways.{AreSteps, Begins, Finds, HasNode, IsFoundBefore, IsReached, IsSearched, Leads, Setting}
use Rattle.lr_conflicts.proofs.Found.{kept}

module _ (S : Setting) where
  -- what the first nodes lead to is there
  pub record IsPartly (i : ℕ) (es : List (Node × Step)) : Type 0 where
    pub steps : AreSteps S es
    pub begun : (n : Node) → Begins S n → HasNode es n
    pub led : (k : ℕ) → k < i → (e : Node × Step) → slice_get es k ≡ Some e → (m : Node) → Leads S e.0 m → HasNode es m

  -- the steps of a way that begins
  pub partly_first : (es : List (Node × Step)) → Finds S None (Begins S) [] es → IsPartly 0 es
  partly_first es w = record {
    steps = record {
      shown = λ n s h. w.shown n s (subst (λ l. Contains l (n, s)) w.is h);
      parent = λ k n s at m is. absurd (cc (sym (w.parent n s (subst (λ l. Contains l (n, s)) w.is (contains_there es k (n, s) at))) ∙ is));
    };
    begun = w.found;
    led = λ k low. absurd (omega (arith, low));
  }

  -- one of the first nodes is one of the first of more
  before_more : (old more new : List (Node × Step)) → new ≡ old ++ more → (j k : ℕ) → j ≤ k → (m : Node) → IsFoundBefore old j m → IsFoundBefore new k m
  before_more old more new is j k less m b = record {
    number = b.number;
    before = let low = b.before in omega (arith, low, less);
    step = b.step;
    is = subst (λ l. slice_get l b.number ≡ Some (m, b.step)) (sym is) (slice_get_left old more b.number (m, b.step) b.is);
  }

  -- steps from a node that was found
  steps_more : (i : ℕ) (old new : List (Node × Step)) (e : Node × Step) {F : Node → Type 0} → AreSteps S old → slice_get old i ≡ Some e
      → Finds S (Some e.0) F old new → AreSteps S new
  steps_more i old new e p at w = record {
    shown = λ n s h. elim (Contains-append_cases old w.more (n, s) (subst (λ l. Contains l (n, s)) w.is h)) [
      | inl before ↦ p.shown n s before
      | inr after ↦ w.shown n s after
    ];
    parent = λ k n s there m is. elim (slice_get_cases old w.more k (n, s) (subst (λ l. slice_get l k ≡ Some (n, s)) w.is there)) [
      | inl before ↦ before_more old w.more new w.is k k (omega arith) m (p.parent k n s before m is)
      | inr after ↦
          let same : e.0 ≡ m = let both = sym (w.parent n s after.1) ∙ is in cc in
          before_more old w.more new w.is (length old) k after.0 m
          (subst (IsFoundBefore old (length old)) same (record { number = i; before = slice_get_within old i e at; step = e.1; is = at }))
    ];
  }

  pub partly_more : (i : ℕ) (old new : List (Node × Step)) (e : Node × Step) → IsPartly i old → slice_get old i ≡ Some e
      → Finds S (Some e.0) (Leads S e.0) old new → IsPartly (i + 1) new
  partly_more i old new e p at w = record {
    steps = steps_more i old new e p.steps at w;
    begun = λ n h. kept S w n (p.begun n h);
    led = λ k low other there m leads. elim (slice_get_cases old w.more k other (subst (λ l. slice_get l k ≡ Some other) w.is there)) [
      | inl before ↦ elim (cases_lt k i) [
        | inl earlier ↦ kept S w m (p.led k earlier other before m leads)
        | inr late ↦
            let here : k ≡ i = omega (arith, low, late) in
            let same : e ≡ other = let read = sym at ∙ ap (slice_get old) (sym here) ∙ before in cc in
            w.found m (subst (λ (x : Node × Step). Leads S x.0 m) (sym same) leads)
      ]
      | inr after ↦ let within = slice_get_within old i e at in let past = after.0 in absurd (omega (arith, within, past, low))
    ];
  }

  module _ (node : Node) (i : ℕ) (es : List (Node × Step)) (p : IsPartly i es) where
    -- a node that was found
    pub searched_known : HasNode es node → IsSearched S node es
    searched_known there = record { steps = p.steps; has = λ h. there }

    -- all that the first nodes led to was gone through
    pub searched_all : length es ≤ i → IsSearched S node es
    searched_all most = record { steps = p.steps; has = all node }
      where
        all : (n : Node) → IsReached S n → HasNode es n
        all n (seed h) = p.begun n h
        all n (led {a = m} h leads) =
            let (s, (k, within, is)) = all m h in
            p.led k (omega (arith, within, most)) (m, s) (slice_get-get_or es k (m, s) within ∙ ap Some is) n leads
