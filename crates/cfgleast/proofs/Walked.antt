-- Productions that advance: sums with one more symbol, and what a production that advances leaves.
use Rattle.std.proofs.Common.{◌≡◌, ℕ, ◌+◌, ◌<◌, ◌≤◌, ◌⊎◌, inl, inr, ◌++◌, min, suc, List, [], ◌∷◌, length, take, drop, get_or, sum_by, Option, Some, All, Contains, arith, refl, sym, ap, subst, ◌∙◌, length-set, drop-cons, add-one}
use Rattle.std.proofs.lemmas.Bool.{cases_lt}
use Rattle.std.proofs.lemmas.List.{take_more, take_all, length_push, drop_all}
use Rattle.std.proofs.lemmas.List.Sums.{sum_by-set}
use Rattle.std.proofs.lemmas.List.Sorted.{length_permutation}
use Rattle.std.proofs.lemmas.List.Elements.{All-get_or}
use Rattle.derivation.specs.Grammar.{Sym, Rule, Grammar}
use Rattle.cfgtables.specs.Openings.{nth_production}
use Rattle.cfgleast.specs.declared.partial.Partial.{Partial}
use Rattle.derivation.specs.Sums.{sum_of, symbol_cost}
use Rattle.derivation.specs.CostLists.{IsListed}
use Rattle.cfgleast.specs.CutSums.{IsCutSum, StopsAt}
use Rattle.cfgleast.specs.Inner.Open.{WaitsFor, HasAtMost, by_cost, by_sum, AreBests, MovesOn, enters, beaten, waits, Enqueues, enqueued, declined, Phase, past, held, moved, AreOpen, AreAllOpen, AreWaking, IsAmong, count_open, waiting_for}
use Rattle.derivation.proofs.Sums.{sum_of-append, plus_both, plus_zero}
use Rattle.lemmas.proofs.Contained.{contains_cases}
use Rattle.lemmas.proofs.Elements.{get_or-set}
use Rattle.cfgleast.proofs.Opened.{more_at_most, moved_on, top_in, woken_above}

module _ (cost : ℕ → ℕ) (settled : ℕ → Option ℕ) where
  -- one more symbol
  pub cut_more : (a : List Sym) (i : ℕ) (s : Sym) (sum c new : ℕ) → i < length a → get_or a i s ≡ s → IsCutSum cost settled (take i a) sum
      → symbol_cost cost settled s ≡ Some c → new ≡ min 65536 (sum + c) → IsCutSum cost settled (take (i + 1) a) new
  cut_more a i s sum c new within at h e made = record {
    total = h.total + c;
    is = ap (sum_of (symbol_cost cost settled)) (take_more a i s within ∙ ap (λ x. take i a ++ x ∷ []) at)
        ∙ sum_of-append (symbol_cost cost settled) (take i a) (s ∷ [])
        ∙ plus_both _ _ h.total c h.is (plus_zero (symbol_cost cost settled s) ∙ e);
    cut = omega (arith, h.cut, made);
  }

  pub cut_all : (a : List Sym) (i sum : ℕ) → length a ≤ i → IsCutSum cost settled (take i a) sum → IsCutSum cost settled a sum
  cut_all a i sum end h = subst (λ l. IsCutSum cost settled l sum) (take_all i a end) h

  module _ (g : Grammar) where
    -- the rule at which a walk stops is a rule of the grammar
    pub stop_listed : (a : List Sym) (rules tokens r : ℕ) (x : Partial) → All (IsListed rules tokens) a → StopsAt cost settled a r x → r < rules
    stop_listed a rules tokens r x all h = subst (IsListed rules tokens) h.symbol (All-get_or (IsListed rules tokens) a x.taken (Rule r) h.taken all)

    pub stop_waits : (p r : ℕ) (x : Partial) → p < length g.productions → x.production ≡ p → StopsAt cost settled (nth_production g p).symbols r x
        → WaitsFor cost settled g r x
    stop_waits p r x index is h =
        let there = subst (λ n. StopsAt cost settled (nth_production g n).symbols r x) (sym is) h in
        record { index = subst (λ n. n < length g.productions) (sym is) index; taken = there.taken; symbol = there.symbol; sum = there.sum }

    -- one more production advances
    pub count_moved : (p : ℕ) (queue queue' : List (ℕ × ℕ)) (waiting waiting' : List (List Partial)) → MovesOn cost settled g p queue queue' waiting waiting'
        → count_open queue' waiting' ≤ count_open queue waiting + 1
    count_moved p queue queue' waiting waiting' (enters c sum into same) =
        let longer = length_permutation ((c, p) ∷ queue) queue' into in
        let lists = ap (sum_by length) same in
        omega (arith, longer, lists)
    count_moved p queue queue' waiting waiting' (beaten c sum enough same kept) =
        let queues = ap length same in
        let lists = ap (sum_by length) kept in
        omega (arith, queues, lists)
    count_moved p queue queue' waiting waiting' (waits r x is for unset within same put) =
        let queues = ap length same in
        let lists = ap (sum_by length) put in
        let change = sum_by-set length waiting r (waiting_for waiting r ++ x ∷ []) [] within in
        let longer = length_push (waiting_for waiting r) x in
        omega (arith, queues, lists, change, longer)

    pub lists_moved : (p : ℕ) (queue queue' : List (ℕ × ℕ)) (waiting waiting' : List (List Partial)) → MovesOn cost settled g p queue queue' waiting waiting'
        → length waiting' ≡ length waiting
    lists_moved p queue queue' waiting waiting' (enters c sum into same) = ap length same
    lists_moved p queue queue' waiting waiting' (beaten c sum enough same kept) = ap length kept
    lists_moved p queue queue' waiting waiting' (waits r x is for unset within same put) = ap length put ∙ length-set waiting r _

    at_most_weaker : (queue : List (ℕ × ℕ)) (r b c : ℕ) → HasAtMost cost settled g queue r b → b ≤ c → HasAtMost cost settled g queue r c
    at_most_weaker queue r b c (by_cost d h low) le = by_cost d h (omega (arith, low, le))
    at_most_weaker queue r b c (by_sum s q h of low) le = by_sum s q h of (omega (arith, low, le))

    -- a production with its sum is queued or dropped
    module _ (p c : ℕ) (sum : IsCutSum cost settled (nth_production g p).symbols c) (queue queue' : List (ℕ × ℕ)) (bests bests' : List ℕ)
        (are : AreBests cost settled g queue bests) where
      pub enqueued_moves : (waiting : List (List Partial)) → (nth_production g p).rule < length bests → Enqueues (nth_production g p).rule c p queue queue' bests bests'
          → MovesOn cost settled g p queue queue' waiting waiting
      enqueued_moves waiting within (enqueued less into put) = enters c sum into refl
      enqueued_moves waiting within (declined low same kept) =
          beaten c sum (at_most_weaker queue _ _ c (are.each _ within (omega (arith, low, sum.cut))) low) same refl

      pub enqueued_bests : (nth_production g p).rule < length bests → Enqueues (nth_production g p).rule c p queue queue' bests bests' → AreBests cost settled g queue' bests'
      enqueued_bests within (declined low same kept) = subst (λ l. AreBests cost settled g l bests') (sym same) (subst (AreBests cost settled g queue) (sym kept) are)
      enqueued_bests within (enqueued less into put) = subst (AreBests cost settled g queue') (sym put) (record {
        rules = length-set bests (nth_production g p).rule c ∙ are.rules;
        each = λ r inside low. elim (get_or-set bests (nth_production g p).rule r c 0) [
          | inl e ↦ subst (HasAtMost cost settled g queue' r) (sym e) (more_at_most g cost settled (c, p) queue queue' into r _
              (are.each r (subst (λ n. r < n) (length-set bests (nth_production g p).rule c) inside) (subst (λ n. n ≤ 65536) e low)))
          | inr e ↦ subst (HasAtMost cost settled g queue' r) (sym e.1) (by_sum c p (top_in (c, p) queue queue' into) (sym e.0) (omega arith))
        ];
      })

    -- the productions from a number on are still to start
    pub start_more : (n p : ℕ) (queue queue' : List (ℕ × ℕ)) (waiting waiting' : List (List Partial)) → n < length g.productions → p ≡ n
        → AreOpen cost settled g queue waiting (λ q. n ≤ q) 0 → MovesOn cost settled g p queue queue' waiting waiting'
        → AreOpen cost settled g queue' waiting' (λ q. n + 1 ≤ q) 0
    start_more n p queue queue' waiting waiting' within is state moves =
        moved_on g cost settled 0 queue waiting (λ q. n ≤ q) (λ q. n + 1 ≤ q) p
        (λ q h. elim (cases_lt n q) [ inl lt ↦ inr (omega (arith, lt)) | inr le ↦ inl (omega (arith, h, le, is)) ])
        (subst (λ m. m < length g.productions) (sym is) within) (λ c sum. omega arith) state queue' waiting' moves

    -- when none is left to advance
    pub all_open : (queue : List (ℕ × ℕ)) (waiting : List (List Partial)) (moving : ℕ → Type 0) (floor : ℕ) → ((q : ℕ) → q < length g.productions → moving q → ⊥)
        → AreOpen cost settled g queue waiting moving floor → AreAllOpen cost settled g queue waiting
    all_open queue waiting moving floor none state = (
      floor,
      record {
        queued_sum = state.queued_sum;
        queued_position = state.queued_position;
        queued_above = state.queued_above;
        held_for = state.held_for;
        phase = λ q h. go q h (state.phase q h);
        settled_below = state.settled_below;
        limit = state.limit;
      },
    )
      where
        go : (q : ℕ) → q < length g.productions → Phase cost settled g queue waiting moving q → Phase cost settled g queue waiting (λ p. ⊥) q
        go q within (past b s h) = past b s h
        go q within (held s y e h i) = held s y e h i
        go q within (moved m) = absurd (none q within m)

    -- one more of those that waited has advanced
    pub wake_more : (i : ℕ) (x : Partial) (woken : List Partial) (queue queue' : List (ℕ × ℕ)) (waiting waiting' : List (List Partial)) → i < length woken → x ≡ get_or woken i x
        → AreWaking cost settled g queue waiting woken i → MovesOn cost settled g x.production queue queue' waiting waiting'
        → AreWaking cost settled g queue' waiting' woken (i + 1)
    wake_more i x woken queue queue' waiting waiting' within at waking moves = record {
      rule = waking.rule;
      floor = waking.floor;
      now = waking.now;
      for = waking.for;
      state = moved_on g cost settled waking.floor queue waiting (IsAmong (drop i woken)) (IsAmong (drop (i + 1) woken)) x.production among for.index
          (woken_above g cost settled waking.floor waking.rule x for waking.now waking.state.limit) waking.state queue' waiting' moves;
    }
      where
        for : WaitsFor cost settled g waking.rule x
        for = subst (WaitsFor cost settled g waking.rule) (sym at) (All-get_or (WaitsFor cost settled g waking.rule) woken i x within waking.for)

        among : (q : ℕ) → IsAmong (drop i woken) q → (q ≡ x.production) ⊎ IsAmong (drop (i + 1) woken) q
        among q h = elim (contains_cases x h.entry (drop (i + 1) woken)
            (subst (λ l. Contains l h.entry) (drop-cons woken i x within ∙ ap (λ y. y ∷ drop (suc i) woken) (sym at) ∙ ap (λ n. x ∷ drop n woken) (sym (add-one i))) h.among)) [
              | inl e ↦ inl (sym h.is ∙ ap (λ (y : Partial). y.production) (sym e))
              | inr k ↦ inr (record { entry = h.entry; among = k; is = h.is })
            ]

    pub wake_all : (i : ℕ) (woken : List Partial) (queue : List (ℕ × ℕ)) (waiting : List (List Partial)) → length woken ≤ i
        → AreWaking cost settled g queue waiting woken i → AreAllOpen cost settled g queue waiting
    wake_all i woken queue waiting end waking = all_open queue waiting (IsAmong (drop i woken)) waking.floor
        (λ q within h. let k = (subst (λ l. Contains l h.entry) (drop_all i woken end) h.among).1 in omega (arith, k)) waking.state
