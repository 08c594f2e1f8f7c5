-- Productions on the way to their sums: one advances, one leaves the queue, or a rule is settled.
use Rattle.std.proofs.Common.{◌≡◌, ℕ, ◌<◌, ◌≤◌, ◌⊎◌, inl, inr, ◌++◌, min, List, [], ◌∷◌, length, slice_set, Option, Some, None, All, Contains, arith, refl, sym, ap, subst, ◌∙◌}
use Rattle.std.proofs.lemmas.Option.{same_Some}
use Rattle.std.specs.List.Sorted.{IsPermutation}
use Rattle.std.proofs.lemmas.List.{get_or-set_same}
use Rattle.std.proofs.lemmas.List.Elements.{All-contains, Contains-append_left, Contains-push, Contains-push_cases}
use Rattle.std.proofs.lemmas.List.Sorted.{Contains-permutation, IsPermutation-sym}
use Rattle.lemmas.proofs.Contained.{contains_cases, contains_first, contains_later, contains_none}
use Rattle.lemmas.proofs.Elements.{get_or-set}
use Rattle.derivation.specs.Grammar.{Sym, Rule, Grammar}
use Rattle.cfgtables.specs.Openings.{nth_production}
use Rattle.cfgleast.specs.declared.partial.Partial.{Partial}
use Rattle.derivation.specs.Sums.{sum_of, symbol_cost}
use Rattle.cfgleast.specs.CutSums.{IsCutSum}
use Rattle.cfgleast.specs.Inner.Open.{WaitsFor, HasAtMost, by_cost, by_sum, AreBests, MovesOn, enters, beaten, waits, Phase, past, held, moved, AreOpen, IsAmong, waiting_for}
use Rattle.cfgleast.proofs.Gains.{Gains, part_at, rule_kept, rule_gained, sequence_kept}

-- the elements of a list that is a permutation of another with one more element
module _ {A : Type 0} (x : A) (xs ys : List A) (perm : IsPermutation (x ∷ xs) ys) where
  pub top_in : Contains ys x
  top_in = Contains-permutation (x ∷ xs) ys x perm (contains_first x xs)

  others_in : (y : A) → Contains xs y → Contains ys y
  others_in y h = Contains-permutation (x ∷ xs) ys y perm (contains_later x y xs h)

  cases_in : (y : A) → Contains ys y → (x ≡ y) ⊎ Contains xs y
  cases_in y h = contains_cases x y xs (Contains-permutation ys (x ∷ xs) y (IsPermutation-sym (x ∷ xs) ys perm) h)

-- one more production waits for a rule
module _ (waiting : List (List Partial)) (r : ℕ) (x : Partial) where
  added_old : (s : ℕ) (y : Partial) → Contains (waiting_for waiting s) y → Contains (waiting_for (slice_set waiting r (waiting_for waiting r ++ x ∷ [])) s) y
  added_old s y h = elim (get_or-set waiting r s (waiting_for waiting r ++ x ∷ []) []) [
    | inl e ↦ subst (λ l. Contains l y) (sym e) h
    | inr e ↦ subst (λ l. Contains l y) (sym e.1)
        (Contains-append_left (waiting_for waiting r) (x ∷ []) y (subst (λ n. Contains (waiting_for waiting n) y) e.0 h))
  ]

  added_new : r < length waiting → Contains (waiting_for (slice_set waiting r (waiting_for waiting r ++ x ∷ [])) r) x
  added_new within = subst (λ l. Contains l x) (sym (get_or-set_same waiting r (waiting_for waiting r ++ x ∷ []) [] within)) (Contains-push (waiting_for waiting r) x)

  added_cases : (s : ℕ) (y : Partial) → Contains (waiting_for (slice_set waiting r (waiting_for waiting r ++ x ∷ [])) s) y
      → Contains (waiting_for waiting s) y ⊎ ((s ≡ r) × (x ≡ y))
  added_cases s y h = elim (get_or-set waiting r s (waiting_for waiting r ++ x ∷ []) []) [
    | inl e ↦ inl (subst (λ l. Contains l y) e h)
    | inr e ↦ elim (Contains-push_cases (waiting_for waiting r) x y (subst (λ l. Contains l y) e.1 h)) [
      | inl k ↦ inl (subst (λ n. Contains (waiting_for waiting n) y) (sym e.0) k)
      | inr k ↦ inr (e.0, k)
    ]
  ]

-- a cut sum is one number
cut_is_one : (cost : ℕ → ℕ) (settled : ℕ → Option ℕ) (symbols : List Sym) (c n : ℕ) → IsCutSum cost settled symbols c
    → sum_of (symbol_cost cost settled) symbols ≡ Some n → c ≡ min n 65536
cut_is_one cost settled symbols c n h e = let same : h.total ≡ n = same_Some _ _ (sym h.is ∙ e) in
    h.cut ∙ ap (λ m. min m 65536) same

-- one more entry in the queue
module _ (g : Grammar) (cost : ℕ → ℕ) (settled : ℕ → Option ℕ) (top : ℕ × ℕ) (queue queue' : List (ℕ × ℕ)) (into : IsPermutation (top ∷ queue) queue') where
  pub more_at_most : (r b : ℕ) → HasAtMost cost settled g queue r b → HasAtMost cost settled g queue' r b
  more_at_most r b (by_cost d h low) = by_cost d h low
  more_at_most r b (by_sum s q h of low) = by_sum s q (others_in top queue queue' into (s, q) h) of low

module _ (g : Grammar) (cost : ℕ → ℕ) (settled : ℕ → Option ℕ) (floor : ℕ) where
  -- the top of the queue belongs to a rule that is settled
  module _ (queue rest : List (ℕ × ℕ)) (waiting : List (List Partial)) (moving : ℕ → Type 0) (c p d : ℕ) (out : IsPermutation queue ((c, p) ∷ rest))
      (done : settled (nth_production g p).rule ≡ Some d) (state : AreOpen cost settled g queue waiting moving floor) where
    back : IsPermutation ((c, p) ∷ rest) queue
    back = IsPermutation-sym queue ((c, p) ∷ rest) out

    popped_at_most : (r b : ℕ) → HasAtMost cost settled g queue r b → HasAtMost cost settled g rest r b
    popped_at_most r b (by_cost e h low) = by_cost e h low
    popped_at_most r b (by_sum s q h of low) = elim (cases_in (c, p) rest queue back (s, q) h) [
      | inl e ↦ by_cost d (subst (λ n. settled n ≡ Some d) (ap (λ (x : ℕ × ℕ). (nth_production g x.1).rule) e ∙ of) done)
          (omega (arith, state.settled_below (nth_production g p).rule d done, state.queued_above s q h, low))
      | inr k ↦ by_sum s q k of low
    ]

    pub popped_bests : (bests : List ℕ) → AreBests cost settled g queue bests → AreBests cost settled g rest bests
    popped_bests bests h = record { rules = h.rules; each = λ r within low. popped_at_most r _ (h.each r within low) }

    popped_phase : (q : ℕ) → Phase cost settled g queue waiting moving q → Phase cost settled g rest waiting moving q
    popped_phase q (past b sum h) = past b sum (popped_at_most _ b h)
    popped_phase q (held r x e h i) = held r x e h i
    popped_phase q (moved m) = moved m

    pub popped_past : AreOpen cost settled g rest waiting moving floor
    popped_past = record {
      queued_sum = λ b q h. state.queued_sum b q (others_in (c, p) rest queue back (b, q) h);
      queued_position = λ b q h. state.queued_position b q (others_in (c, p) rest queue back (b, q) h);
      queued_above = λ b q h. state.queued_above b q (others_in (c, p) rest queue back (b, q) h);
      held_for = state.held_for;
      phase = λ q h. popped_phase q (state.phase q h);
      settled_below = state.settled_below;
      limit = state.limit;
    }

  -- a production that was removed from the queue and the lists advances
  module _ (queue : List (ℕ × ℕ)) (waiting : List (List Partial)) (moving moving' : ℕ → Type 0) (p : ℕ)
      (rest : (q : ℕ) → moving q → (q ≡ p) ⊎ moving' q) (index : p < length g.productions)
      (above : (c : ℕ) → IsCutSum cost settled (nth_production g p).symbols c → floor ≤ c)
      (state : AreOpen cost settled g queue waiting moving floor) where
    module _ (c : ℕ) (sum : IsCutSum cost settled (nth_production g p).symbols c) (queue' : List (ℕ × ℕ)) (into : IsPermutation ((c, p) ∷ queue) queue') where
      enters_phase : (q : ℕ) → Phase cost settled g queue waiting moving q → Phase cost settled g queue' waiting moving' q
      enters_phase q (past b s h) = past b s (more_at_most g cost settled (c, p) queue queue' into _ b h)
      enters_phase q (held r x e h i) = held r x e h i
      enters_phase q (moved m) = elim (rest q m) [
        | inl e ↦ subst (Phase cost settled g queue' waiting moving') (sym e) (past c sum (by_sum c p (top_in (c, p) queue queue' into) refl (omega arith)))
        | inr k ↦ moved k
      ]

      queued_holds : (F : ℕ → ℕ → Type 0) → F c p → ((b q : ℕ) → Contains queue (b, q) → F b q) → (b q : ℕ) → Contains queue' (b, q) → F b q
      queued_holds F top others b q h = elim (cases_in (c, p) queue queue' into (b, q) h) [
        | inl e ↦ subst (λ (x : ℕ × ℕ). F x.0 x.1) e top
        | inr k ↦ others b q k
      ]

      entered : AreOpen cost settled g queue' waiting moving' floor
      entered = record {
        queued_sum = queued_holds (λ b q. IsCutSum cost settled (nth_production g q).symbols b) sum state.queued_sum;
        queued_position = queued_holds (λ b q. q < length g.productions) index state.queued_position;
        queued_above = queued_holds (λ b q. floor ≤ b) (above c sum) state.queued_above;
        held_for = state.held_for;
        phase = λ q h. enters_phase q (state.phase q h);
        settled_below = state.settled_below;
        limit = state.limit;
      }

    module _ (c : ℕ) (sum : IsCutSum cost settled (nth_production g p).symbols c) (enough : HasAtMost cost settled g queue (nth_production g p).rule c) where
      beaten_phase : (q : ℕ) → Phase cost settled g queue waiting moving q → Phase cost settled g queue waiting moving' q
      beaten_phase q (past b s h) = past b s h
      beaten_phase q (held r x e h i) = held r x e h i
      beaten_phase q (moved m) = elim (rest q m) [
        | inl e ↦ subst (Phase cost settled g queue waiting moving') (sym e) (past c sum enough)
        | inr k ↦ moved k
      ]

      passed : AreOpen cost settled g queue waiting moving' floor
      passed = record {
        queued_sum = state.queued_sum;
        queued_position = state.queued_position;
        queued_above = state.queued_above;
        held_for = state.held_for;
        phase = λ q h. beaten_phase q (state.phase q h);
        settled_below = state.settled_below;
        limit = state.limit;
      }

    module _ (r : ℕ) (x : Partial) (is : x.production ≡ p) (for : WaitsFor cost settled g r x) (none : settled r ≡ None) (within : r < length waiting) where
      waits_phase : (q : ℕ) → Phase cost settled g queue waiting moving q → Phase cost settled g queue (slice_set waiting r (waiting_for waiting r ++ x ∷ [])) moving' q
      waits_phase q (past b s h) = past b s h
      waits_phase q (held s y e h i) = held s y e (added_old waiting r x s y h) i
      waits_phase q (moved m) = elim (rest q m) [
        | inl e ↦ held r x none (added_new waiting r x within) (is ∙ sym e)
        | inr k ↦ moved k
      ]

      waited : AreOpen cost settled g queue (slice_set waiting r (waiting_for waiting r ++ x ∷ [])) moving' floor
      waited = record {
        queued_sum = state.queued_sum;
        queued_position = state.queued_position;
        queued_above = state.queued_above;
        held_for = λ s y h. elim (added_cases waiting r x s y h) [
          | inl k ↦ state.held_for s y k
          | inr e ↦ subst (λ z. WaitsFor cost settled g s z) e.1 (subst (λ n. WaitsFor cost settled g n x) (sym e.0) for)
        ];
        phase = λ q h. waits_phase q (state.phase q h);
        settled_below = state.settled_below;
        limit = state.limit;
      }

    pub moved_on : (queue' : List (ℕ × ℕ)) (waiting' : List (List Partial)) → MovesOn cost settled g p queue queue' waiting waiting'
        → AreOpen cost settled g queue' waiting' moving' floor
    moved_on queue' waiting' (enters c sum into same) = subst (λ l. AreOpen cost settled g queue' l moving' floor) (sym same) (entered c sum queue' into)
    moved_on queue' waiting' (beaten c sum enough same kept) = subst (λ l. AreOpen cost settled g l waiting' moving' floor) (sym same)
        (subst (λ l. AreOpen cost settled g queue l moving' floor) (sym kept) (passed c sum enough))
    moved_on queue' waiting' (waits r x is for none within same put) =
        subst (λ l. AreOpen cost settled g l waiting' moving' floor) (sym same)
        (subst (λ l. AreOpen cost settled g queue l moving' floor) (sym put) (waited r x is for none within))

  -- the sum of a production that waited for a rule is at least the cost at which the rule was settled
  pub woken_above : (r : ℕ) (x : Partial) → WaitsFor cost settled g r x → settled r ≡ Some floor → floor ≤ 65536
      → (c : ℕ) → IsCutSum cost settled (nth_production g x.production).symbols c → floor ≤ c
  woken_above r x for now limit c sum =
      let part = part_at (symbol_cost cost settled) (nth_production g x.production).symbols x.taken (Rule r) sum.total for.taken for.symbol sum.is in
      let same : floor ≡ part.value = same_Some _ _ (sym now ∙ part.is) in
      omega (arith, same, sum.cut, part.within, limit)

  -- when the queue is empty, each production whose rules are settled has a settled rule
  module _ (waiting : List (List Partial)) (moving : ℕ → Type 0) (none : (q : ℕ) → moving q → ⊥) (state : AreOpen cost settled g [] waiting moving floor) where
    finish : (p m : ℕ) → Phase cost settled g [] waiting moving p → sum_of (symbol_cost cost settled) (nth_production g p).symbols ≡ Some m
        → (d : ℕ) × (settled (nth_production g p).rule ≡ Some d) × (d ≤ min m 65536)
    finish p m (past b s (by_cost d h low)) e = let cut = cut_is_one cost settled (nth_production g p).symbols b m s e in (d, h, omega (arith, cut, low))
    finish p m (past b s (by_sum c q h of low)) e = absurd (contains_none (c, q) h)
    finish p m (held r x unset h i) e =
        let for = state.held_for r x h in
        let sum = subst (λ n. sum_of (symbol_cost cost settled) (nth_production g n).symbols ≡ Some m) (sym i) e in
        let part = part_at (symbol_cost cost settled) (nth_production g x.production).symbols x.taken (Rule r) m for.taken for.symbol sum in
        let no : None ≡ Some part.value = sym unset ∙ part.is in
        absurd (cc)
    finish p m (moved h) e = absurd (none p h)

    pub finished : (p m : ℕ) → p < length g.productions → sum_of (symbol_cost cost settled) (nth_production g p).symbols ≡ Some m
        → (d : ℕ) × (settled (nth_production g p).rule ≡ Some d) × (d ≤ min m 65536)
    finished p m h e = finish p m (state.phase p h) e

-- the top of the queue settles its rule
module _ (g : Grammar) (cost : ℕ → ℕ) (old new : ℕ → Option ℕ) (r c : ℕ) (gains : Gains old new r c) (floor p : ℕ) (owner : (nth_production g p).rule ≡ r)
    (queue rest : List (ℕ × ℕ)) (waiting : List (List Partial)) (out : IsPermutation queue ((c, p) ∷ rest)) (above : All (λ (x : ℕ × ℕ). c ≤ x.0) rest)
    (moving : ℕ → Type 0) (none : (q : ℕ) → moving q → ⊥) (state : AreOpen cost old g queue waiting moving floor) where
  cut_kept : (a : List Sym) (n : ℕ) → IsCutSum cost old a n → IsCutSum cost new a n
  cut_kept a n h = record { total = h.total; is = sequence_kept cost old new r c gains a h.total h.is; cut = h.cut }

  wait_kept : (s : ℕ) (x : Partial) → WaitsFor cost old g s x → WaitsFor cost new g s x
  wait_kept s x h = record { index = h.index; taken = h.taken; symbol = h.symbol; sum = cut_kept _ x.sum h.sum }

  out_back : IsPermutation ((c, p) ∷ rest) queue
  out_back = IsPermutation-sym queue ((c, p) ∷ rest) out

  top_queued : Contains queue (c, p)
  top_queued = top_in (c, p) rest queue out_back

  floor_below : floor ≤ c
  floor_below = state.queued_above c p top_queued

  cost_limit : c ≤ 65536
  cost_limit = omega (arith, (state.queued_sum c p top_queued).cut)

  taken_old : (s : ℕ) (y : Partial) → Contains (waiting_for (slice_set waiting r []) s) y → Contains (waiting_for waiting s) y
  taken_old s y h = elim (get_or-set waiting r s [] []) [
    | inl e ↦ subst (λ l. Contains l y) e h
    | inr e ↦ absurd (contains_none y (subst (λ l. Contains l y) e.1 h))
  ]

  taken_cases : (s : ℕ) (y : Partial) → Contains (waiting_for waiting s) y → Contains (waiting_for (slice_set waiting r []) s) y ⊎ (s ≡ r)
  taken_cases s y h = elim (get_or-set waiting r s [] []) [ inl e ↦ inl (subst (λ l. Contains l y) (sym e) h) | inr e ↦ inr e.0 ]

  woken_phase : (q s : ℕ) (x : Partial) → s ≡ r → Contains (waiting_for waiting s) x → x.production ≡ q → Phase cost new g rest (slice_set waiting r []) (IsAmong (waiting_for waiting r)) q
  woken_phase q s x e h i = moved (record { entry = x; among = subst (λ n. Contains (waiting_for waiting n) x) e h; is = i })

  settled_at_most : (q b : ℕ) → HasAtMost cost old g queue q b → HasAtMost cost new g rest q b
  settled_at_most q b (by_cost d h low) = by_cost d (rule_kept cost old new r c gains q d h) low
  settled_at_most q b (by_sum s n h of low) = elim (cases_in (c, p) rest queue out_back (s, n) h) [
    | inl e ↦
        let same : c ≡ s = ap (λ (x : ℕ × ℕ). x.0) e in
        by_cost c (ap new (sym of ∙ ap (λ (x : ℕ × ℕ). (nth_production g x.1).rule) (sym e) ∙ owner) ∙ gains.now) (omega (arith, same, low))
    | inr k ↦ by_sum s n k of low
  ]

  pub settled_bests : (bests : List ℕ) → AreBests cost old g queue bests → AreBests cost new g rest bests
  settled_bests bests h = record { rules = h.rules; each = λ q within low. settled_at_most q _ (h.each q within low) }

  settled_phase : (q : ℕ) → Phase cost old g queue waiting moving q → Phase cost new g rest (slice_set waiting r []) (IsAmong (waiting_for waiting r)) q
  settled_phase q (past b s h) = past b (cut_kept _ b s) (settled_at_most _ b h)
  settled_phase q (held s x unset h i) = elim (gains.others s) [
    | inr e ↦ woken_phase q s x e h i
    | inl e ↦ elim (taken_cases s x h) [ inl k ↦ held s x (e ∙ unset) k i | inr k ↦ woken_phase q s x k h i ]
  ]
  settled_phase q (moved m) = absurd (none q m)

  pub settled_open : AreOpen cost new g rest (slice_set waiting r []) (IsAmong (waiting_for waiting r)) c
  settled_open = record {
    queued_sum = λ b q h. cut_kept _ b (state.queued_sum b q (others_in (c, p) rest queue out_back (b, q) h));
    queued_position = λ b q h. state.queued_position b q (others_in (c, p) rest queue out_back (b, q) h);
    queued_above = λ b q h. All-contains (λ (x : ℕ × ℕ). c ≤ x.0) rest (b, q) above h;
    held_for = λ s y h. wait_kept s y (state.held_for s y (taken_old s y h));
    phase = λ q h. settled_phase q (state.phase q h);
    settled_below = λ q d e. elim (rule_gained cost old new r c gains q d e) [
      | inl h ↦ omega (arith, state.settled_below q d h, floor_below)
      | inr h ↦ omega (arith, h.1)
    ];
    limit = cost_limit;
  }

  pub woken_wait : (x : Partial) → Contains (waiting_for waiting r) x → WaitsFor cost new g r x
  woken_wait x h = wait_kept r x (state.held_for r x h)
