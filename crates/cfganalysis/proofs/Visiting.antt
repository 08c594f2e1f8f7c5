-- Visits: a production is opened and what it gives is added, and the productions that depend on sets that grew are queued.
use Rattle.std.proofs.Common.{◌≡◌, ℕ, ◌+◌, ◌-◌, ◌*◌, ◌^◌, ◌<◌, ◌≤◌, ◌≢◌, ◌⊎◌, inl, inr, Bool, true, false, cond, List, [], Contains, get_or, length, replicate, arith, refl, sym, ap, ◌∙◌, subst, below_more, true≢false, length-set, get_or-set_same, get_or-set_other}
use Rattle.std.proofs.Math.Nat.{mul-le-mul_left, mul-add, mul-one, mul_comm}
use Rattle.std.proofs.lemmas.Bool.{cases_eq, cases_lt, false_from_ne_true}
use Rattle.std.proofs.lemmas.List.{ext_get_or, length-replicate}
use Rattle.std.proofs.lemmas.List.Sums.{count_by-le-length}
use Rattle.lemmas.proofs.Elements.{get_or-replicate_default, within_from_get_or}
use Rattle.derivation.specs.Grammar.{Grammar, Production, IsGrammar}
use Rattle.cfgtables.specs.Openings.{AreOpenedAtMost, nth_production, OpensOne}
use Rattle.cfgsets.specs.Growth.{CoversEach, AddsInto}
use Rattle.cfganalysis.specs.Inner.Visits.{Visited, left_to_do}
use Rattle.cfgsets.specs.Table.{bits_on}
use Rattle.cfgsets.specs.Waiting.{waits, Waits, NoneWaits, WaitsNoMore}
use Rattle.cfgsets.specs.Work.{dependents_of, Notes}
use Rattle.cfgtables.proofs.Located.{same_production, at_position}
use Rattle.lemmas.proofs.Contained.{contains_none}
use Rattle.cfgsets.proofs.Stacking.{bits_on-clear, bits_on-none}

-- a bit can't be both on and off
both : {b : Bool} → b ≡ true → b ≡ false → ⊥
both on off = true≢false (sym on ∙ off)

-- lists in which the same bits are on are equal
same_bits : (x y : List Bool) → length y ≡ length x → ((q : ℕ) → Waits x q → Waits y q) → ((q : ℕ) → Waits y q → Waits x q) → y ≡ x
same_bits x y long to from = ext_get_or false y x long (λ q lt. alike (waits y q) (waits x q) (from q) (to q))
  where
    alike : (a b : Bool) → (a ≡ true → b ≡ true) → (b ≡ true → a ≡ true) → a ≡ b
    alike true b f h = sym (f refl)
    alike false true f h = h refl
    alike false false f h = refl

-- one more opening is within the bounds if more bits are on
few_after : (o m m' : ℕ) (b b' : Bool) → o + cond b 1 0 ≤ m + 1 → m ≤ m' → (b' ≡ true → (b ≡ true) ⊎ (m < m')) → o + cond b' 1 0 ≤ m' + 1
few_after o m m' b false few le was = let z = few in omega (arith, z, le, at_least b)
  where
    at_least : (b : Bool) → 0 ≤ cond b 1 0
    at_least b = omega arith
few_after o m m' b true few le was = elim (was refl) [
  | inl on ↦
      let z : ◌≡◌ {A = ℕ} (cond b 1 0) 1 = ap (λ c. cond c 1 0) on in
      omega (arith, few, le, z)
  | inr lt ↦ omega (arith, few, lt)
]

one_more : (n m : ℕ) → n * (m + 1) ≡ n * m + n
one_more n m = mul-add n m 1 ∙ ap (λ k. n * m + k) (mul-one n)

-- at most all productions wait, and more of them than before only if bits were turned on
together_after : (all n m m' w w' positions : ℕ) → all + w ≤ n + positions * m → m ≤ m' → w' ≤ positions → (m < m') ⊎ (w' ≡ w) → all + w' ≤ n + positions * m'
together_after all n m m' w w' positions h le most (inl lt) =
    let product : positions * (m + 1) ≤ positions * m' = mul-le-mul_left positions (omega (arith, lt)) in
    omega (arith, h, most, product, one_more positions m)
together_after all n m m' w w' positions h le most (inr e) =
    let product : positions * m ≤ positions * m' = mul-le-mul_left positions le in
    omega (arith, h, e, product)

-- less is left to do if bits were turned on, or else if fewer productions wait
abbrev left : ℕ → ℕ → ℕ → ℕ → ℕ
left most positions bits waiting = (most - bits) * (positions + 1) + waiting

left_less : (most positions m m' w w' : ℕ) → m' ≤ most → w' ≤ positions → (m < m') ⊎ ((m ≡ m') × (w' < w)) → left most positions m' w' < left most positions m w
left_less most positions m m' w w' top le (inl lt) =
    let product : (positions + 1) * ((most - m') + 1) ≤ (positions + 1) * (most - m) = mul-le-mul_left (positions + 1) (omega (arith, lt, top)) in
    omega (arith, one_more (positions + 1) (most - m'), product, le, mul_comm (positions + 1) (most - m'), mul_comm (positions + 1) (most - m))
left_less most positions m m' w w' top le (inr h) = subst (λ k. left most positions k w' < left most positions m w) h.0 (omega (arith, h.1))

module _ {X : Type 0} (holds : Grammar → X → Type 0) (covers : X → Production → Type 0) (bits : X → ℕ) (depends_on : Production → ℕ → Type 0) where
  -- production p is open: the others are covered, or wait
  record Open (g : Grammar) (n p : ℕ) (x : X) (dependents : List (List ℕ)) (waiting : List Bool) (opened : ℕ → ℕ) (all : ℕ) : Type 0 where
    sound : holds g x
    rules : length dependents ≡ g.rules
    positions : length waiting ≡ length g.productions
    here : p < n
    noted : (q r : ℕ) → q < n → depends_on (nth_production g q) r → Contains (dependents_of dependents r) q
    within : (q r : ℕ) → Contains (dependents_of dependents r) q → q < n
    known : (q : ℕ) → Waits waiting q → q < n
    covered : (q : ℕ) → q < n → q ≢ p → waits waiting q ≡ false → covers x (nth_production g q)
    few : (q : ℕ) → q < n → opened q + cond (waits waiting q) 1 0 ≤ bits x + 1
    fresh : (q : ℕ) → n ≤ q → q < length g.productions → opened q ≡ 0
    together : all + bits_on waiting ≤ n + length g.productions * bits x

  opened_first : (g g' : Grammar) (n : ℕ) (x : X) (dependents dependents' : List (List ℕ)) (waiting grown : List Bool) (o o' : ℕ → ℕ) (a a' : ℕ)
      → n < length g.productions → Visited holds covers bits depends_on g n x dependents waiting grown o a → OpensOne n g g' o o' a a'
      → Notes n (depends_on (nth_production g n)) dependents dependents' → Open g (n + 1) n x dependents' waiting o' a'
  opened_first g g' n x dependents dependents' waiting grown o o' a a' lt w one notes = record {
    sound = w.sound;
    rules = notes.shape ∙ w.rules;
    positions = w.positions;
    here = omega arith;
    noted = λ q r h depends. below_more (λ k. depends_on (nth_production g k) r → Contains (dependents_of dependents' r) k) n
        (λ k i j. (notes.dependents r k).1 (inl (w.noted k r i j))) (λ j. (notes.dependents r n).1 (inr (refl, j))) q h depends;
    within = λ q r h. elim ((notes.dependents r q).0 h) [
      | inl i ↦ let k = w.within q r i in omega (arith, k)
      | inr i ↦ let e = i.0 in omega (arith, e)
    ];
    known = λ q h. let k = w.known q h in omega (arith, k);
    covered = λ q h ne off. let k : q < n = omega (arith, h, ne) in w.covered q k off;
    few = λ q h. below_more (λ k. o' k + cond (waits waiting k) 1 0 ≤ bits x + 1) n (λ k i. kept k i) new q h;
    fresh = λ q h k. let ne : q ≢ n = omega (arith, h) in let i : n ≤ q = omega (arith, h) in one.others q ne ∙ w.fresh q i k;
    together = let e = one.together in let h = w.together in omega (arith, e, h);
  }
    where
      kept : (k : ℕ) → k < n → o' k + cond (waits waiting k) 1 0 ≤ bits x + 1
      kept k i = let ne : k ≢ n = omega (arith, i) in let e = one.others k ne in let h = w.few k i in omega (arith, e, h)

      new : o' n + cond (waits waiting n) 1 0 ≤ bits x + 1
      new =
          let off : waits waiting n ≡ false = false_from_ne_true (waits waiting n) (λ h. let k = w.known n h in omega (arith, k)) in
          let z : ◌≡◌ {A = ℕ} (cond (waits waiting n) 1 0) 0 = ap (λ b. cond b 1 0) off in
          let e = one.more in
          let none = w.fresh n (omega arith) lt in
          omega (arith, e, none, z)

  opened_next : (g g' : Grammar) (n p : ℕ) (x : X) (dependents : List (List ℕ)) (waiting rest grown : List Bool) (o o' : ℕ → ℕ) (a a' : ℕ)
      → Visited holds covers bits depends_on g n x dependents waiting grown o a → WaitsNoMore p waiting rest → OpensOne p g g' o o' a a'
      → Open g n p x dependents rest o' a'
  opened_next g g' n p x dependents waiting rest grown o o' a a' w leaves one = record {
    sound = w.sound;
    rules = w.rules;
    positions = ap length leaves.rest ∙ length-set waiting p false ∙ w.positions;
    here = w.known p leaves.waited;
    noted = w.noted;
    within = w.within;
    known = λ q h. w.known q (waited q h);
    covered = λ q h ne off. w.covered q h (sym (other q ne) ∙ off);
    few = λ q h. elim (cases_eq q p) [
      | inl e ↦ subst (λ k. o' k + cond (waits rest k) 1 0 ≤ bits x + 1) (sym e) here_few
      | inr ne ↦
          let k = w.few q h in
          let e = one.others q ne in
          let z : ◌≡◌ {A = ℕ} (cond (waits rest q) 1 0) (cond (waits waiting q) 1 0) = ap (λ b. cond b 1 0) (other q ne) in
          omega (arith, k, e, z)
    ];
    fresh = λ q h k. let i = w.known p leaves.waited in let ne : q ≢ p = omega (arith, h, i) in one.others q ne ∙ w.fresh q h k;
    together =
        let e = one.together in
        let h = w.together in
        let less : bits_on rest + 1 ≡ bits_on waiting = ap (λ l. bits_on l + 1) leaves.rest ∙ bits_on-clear waiting p index leaves.waited in
        omega (arith, e, h, less);
  }
    where
      index : p < length waiting
      index = within_from_get_or waiting p false (λ e. both leaves.waited e)

      other : (q : ℕ) → q ≢ p → waits rest q ≡ waits waiting q
      other q ne = ap (λ l. get_or l q false) leaves.rest ∙ get_or-set_other waiting p q false false ne

      gone : waits rest p ≡ false
      gone = ap (λ l. get_or l p false) leaves.rest ∙ get_or-set_same waiting p false false index

      waited : (q : ℕ) → Waits rest q → Waits waiting q
      waited q h = elim (cases_eq q p) [
        | inl e ↦ ap (waits waiting) e ∙ leaves.waited
        | inr ne ↦ sym (other q ne) ∙ h
      ]

      here_few : o' p + cond (waits rest p) 1 0 ≤ bits x + 1
      here_few =
          let k = w.few p (w.known p leaves.waited) in
          let e = one.more in
          let z : ◌≡◌ {A = ℕ} (cond (waits rest p) 1 0) 0 = ap (λ b. cond b 1 0) gone in
          let y : ◌≡◌ {A = ℕ} (cond (waits waiting p) 1 0) 1 = ap (λ b. cond b 1 0) leaves.waited in
          omega (arith, k, e, z, y)

  module _ (no_more : ℕ → X → X → Type 0) (g : Grammar) (n p : ℕ) (old new : X) (dependents : List (List ℕ)) (waiting waiting' grown : List Bool) (o : ℕ → ℕ) (a : ℕ) (is : IsGrammar g)
      (top : n ≤ length g.productions) (w : Open g n p old dependents waiting o a)
      (takes : AddsInto holds covers bits depends_on no_more (nth_production g p) dependents old new waiting waiting')
      (idle : NoneWaits grown) (gains : length grown ≡ g.rules) where
    grew : (bits old < bits new) ⊎ (waiting' ≡ waiting)
    grew = elim (cases_lt (bits old) (bits new)) [
      | inl lt ↦ inl lt
      | inr le ↦ inr (same_bits waiting waiting' takes.shape (λ q h. (takes.again q).1 (inl h)) (λ q h. elim ((takes.again q).0 h) [
        | inl i ↦ i
        | inr i ↦ let k = takes.more i.rule i.gains in absurd (omega (arith, le, k))
      ]))
    ]

    index : p < length g.productions
    index = let h = w.here in omega (arith, h, top)

    opened_taken : Visited holds covers bits depends_on g n new dependents waiting' grown o a
    opened_taken = record {
      sound = takes.sound g is (at_position g p (nth_production g p) index refl refl) w.sound;
      rules = w.rules;
      gains = gains;
      positions = takes.shape ∙ w.positions;
      idle = idle;
      noted = w.noted;
      within = w.within;
      known = λ q h. elim ((takes.again q).0 h) [ inl i ↦ w.known q i | inr i ↦ w.within q i.rule i.noted ];
      covered = λ q h off. elim (cases_eq q p) [
        | inl e ↦ subst (λ k. covers new (nth_production g k)) (sym e)
            (takes.closed p (λ r depends. w.noted p r w.here depends) (ap (waits waiting') (sym e) ∙ off))
        | inr ne ↦ takes.stays (nth_production g q) q (λ r depends. w.noted q r h depends) off
            (w.covered q h ne (false_from_ne_true (waits waiting q) (λ on. both ((takes.again q).1 (inl on)) off)))
      ];
      few = λ q h. few_after (o q) (bits old) (bits new) (waits waiting q) (waits waiting' q) (w.few q h) takes.no_less
          (λ on. elim ((takes.again q).0 on) [ inl i ↦ inl i | inr i ↦ inr (takes.more i.rule i.gains) ]);
      fresh = w.fresh;
      together = together_after a n (bits old) (bits new) (bits_on waiting) (bits_on waiting') (length g.productions) w.together takes.no_less
          (let most = count_by-le-length (λ (b : Bool). b) waiting' in let e = takes.shape in let h = w.positions in omega (arith, most, e, h))
          (elim grew [ inl lt ↦ inl lt | inr e ↦ inr (ap bits_on e) ]);
    }

  module _ (g : Grammar) (n : ℕ) (x : X) (dependents : List (List ℕ)) (waiting grown : List Bool) (o : ℕ → ℕ) (a : ℕ)
      (w : Visited holds covers bits depends_on g n x dependents waiting grown o a) where
    -- one more opening can be counted
    pub all_below : (most : ℕ) → n < length g.productions → bits x ≤ most → length g.productions * (most + 1) < 2 ^ 128 - 1 → a < 2 ^ 128 - 1
    all_below most lt bound small =
        let product : length g.productions * bits x ≤ length g.productions * most = mul-le-mul_left (length g.productions) bound in
        let h = w.together in
        omega (arith, h, product, one_more (length g.productions) most, lt, small)

    -- also if a production waits
    pub all_again : (most m : ℕ) (rest : List Bool) → n ≡ length g.productions → WaitsNoMore m waiting rest → bits x ≤ most
        → length g.productions * (most + 1) < 2 ^ 128 - 1 → a < 2 ^ 128 - 1
    all_again most m rest top leaves bound small =
        let product : length g.productions * bits x ≤ length g.productions * most = mul-le-mul_left (length g.productions) bound in
        let h = w.together in
        let less = bits_on-clear waiting m (within_from_get_or waiting m false (λ e. both leaves.waited e)) leaves.waited in
        omega (arith, h, product, one_more (length g.productions) most, top, less, small)

    -- what is noted is a number below the bound of those that can wait
    pub noted_within : (depends : ℕ → Type 0) (dependents' : List (List ℕ)) → n < length g.productions → Notes n depends dependents dependents'
        → (r q : ℕ) → Contains (dependents_of dependents' r) q → q < length waiting
    noted_within depends dependents' lt notes r q h = let e = w.positions in elim ((notes.dependents r q).0 h) [
      | inl i ↦ let k = w.within q r i in omega (arith, k, lt, e)
      | inr i ↦ let k = i.0 in omega (arith, k, lt, e)
    ]

    -- a production was opened for the first time
    pub visited_first : (no_more : ℕ → X → X → Type 0) (g' : Grammar) (index : ℕ) (p : Production) (new : X) (dependents' dependents'' : List (List ℕ)) (waiting' grown' : List Bool) (o' : ℕ → ℕ) (a' : ℕ)
        → IsGrammar g → n < length g.productions → index ≡ n → p.rule ≡ (nth_production g index).rule → p.symbols ≡ (nth_production g index).symbols
        → OpensOne index g g' o o' a a' → Notes n (depends_on p) dependents dependents' → AddsInto holds covers bits depends_on no_more p dependents' x new waiting waiting'
        → dependents'' ≡ dependents' → NoneWaits grown' → length grown' ≡ length grown
        → Visited holds covers bits depends_on g' (n + 1) new dependents'' waiting' grown' o' a'
    visited_first no_more g' index p new dependents' dependents'' waiting' grown' o' a' is lt at rule symbols one notes takes same idle gains =
        let e = same_production p (nth_production g index) rule symbols ∙ ap (nth_production g) at in
        let state = opened_first g g' n x dependents dependents' waiting grown o o' a a' lt w (subst (λ k. OpensOne k g g' o o' a a') at one) (subst (λ q. Notes n (depends_on q) dependents dependents') e notes) in
        subst (λ h. Visited holds covers bits depends_on h (n + 1) new dependents'' waiting' grown' o' a') (sym one.stays)
        (subst (λ l. Visited holds covers bits depends_on g (n + 1) new l waiting' grown' o' a') (sym same)
        (opened_taken no_more g (n + 1) n x new dependents' waiting waiting' grown' o' a' is (omega (arith, lt)) state
        (subst (λ q. AddsInto holds covers bits depends_on no_more q dependents' x new waiting waiting') e takes) idle (gains ∙ w.gains)))

    -- a production that waited was opened again
    pub visited_next : (no_more : ℕ → X → X → Type 0) (g' : Grammar) (index m : ℕ) (p : Production) (new : X) (dependents' : List (List ℕ)) (rest waiting' grown' : List Bool) (o' : ℕ → ℕ) (a' : ℕ)
        → IsGrammar g → n ≡ length g.productions → index ≡ m → p.rule ≡ (nth_production g index).rule → p.symbols ≡ (nth_production g index).symbols
        → WaitsNoMore m waiting rest → OpensOne index g g' o o' a a' → AddsInto holds covers bits depends_on no_more p dependents x new rest waiting'
        → dependents' ≡ dependents → NoneWaits grown' → length grown' ≡ length grown
        → Visited holds covers bits depends_on g' (length g'.productions) new dependents' waiting' grown' o' a'
    visited_next no_more g' index m p new dependents' rest waiting' grown' o' a' is top at rule symbols leaves one takes same idle gains =
        let e = same_production p (nth_production g index) rule symbols ∙ ap (nth_production g) at in
        let state = opened_next g g' n m x dependents waiting rest grown o o' a a' w leaves (subst (λ k. OpensOne k g g' o o' a a') at one) in
        subst (λ h. Visited holds covers bits depends_on h (length h.productions) new dependents' waiting' grown' o' a') (sym one.stays)
        (subst (λ k. Visited holds covers bits depends_on g k new dependents' waiting' grown' o' a') top
        (subst (λ l. Visited holds covers bits depends_on g n new l waiting' grown' o' a') (sym same)
        (opened_taken no_more g n m x new dependents rest waiting' grown' o' a' is (omega (arith, top)) state
        (subst (λ q. AddsInto holds covers bits depends_on no_more q dependents x new rest waiting') e takes) idle (gains ∙ w.gains))))

    -- and less is left to do
    pub visited_less : (no_more : ℕ → X → X → Type 0) (m : ℕ) (p : Production) (new : X) (rest waiting' : List Bool) → bits new ≤ g.rules * (g.tokens + 1) → WaitsNoMore m waiting rest
        → AddsInto holds covers bits depends_on no_more p dependents x new rest waiting'
        → left_to_do g (bits new) waiting' < left_to_do g (bits x) waiting
    visited_less no_more m p new rest waiting' bound leaves takes =
        subst (λ k. left (g.rules * (g.tokens + 1)) k (bits new) (bits_on waiting') < left_to_do g (bits x) waiting) (sym longer)
        (left_less (g.rules * (g.tokens + 1)) (length waiting) (bits x) (bits new) (bits_on waiting) (bits_on waiting') bound
        (let n = count_by-le-length (λ (b : Bool). b) waiting' in omega (arith, n, longer))
        (elim (cases_lt (bits x) (bits new)) [
          | inl lt ↦ inl lt
          | inr le ↦ let k = takes.no_less in
              let same : waiting' ≡ rest = same_bits rest waiting' takes.shape (λ q h. (takes.again q).1 (inl h)) (λ q h. elim ((takes.again q).0 h) [
                | inl i ↦ i
                | inr i ↦ let lt = takes.more i.rule i.gains in absurd (omega (arith, le, lt))
              ]) in
              let e : bits_on waiting' ≡ bits_on rest = ap bits_on same in
              let equal : bits x ≡ bits new = omega (arith, le, k) in
              inr (equal, omega (arith, e, less))
        ]))
      where
        longer : length waiting' ≡ length waiting
        longer = takes.shape ∙ ap length leaves.rest ∙ length-set waiting m false

        less : bits_on rest + 1 ≡ bits_on waiting
        less = ap (λ l. bits_on l + 1) leaves.rest
            ∙ bits_on-clear waiting m (within_from_get_or waiting m false (λ e. both leaves.waited e)) leaves.waited

    -- the number of openings when every production was visited, or when the visits ended at one
    pub few_opened : (most : ℕ) → bits x ≤ most → n ≤ length g.productions → AreOpenedAtMost (most + 1) g o a
    few_opened most bound le = record {
      each = λ q lt. elim (cases_lt q n) [
        | inl i ↦ let h = w.few q i in omega (arith, h, bound)
        | inr i ↦ let e = w.fresh q i lt in omega (arith, e)
      ];
      together =
          let product : length g.productions * bits x ≤ length g.productions * most = mul-le-mul_left (length g.productions) bound in
          let h = w.together in
          omega (arith, h, product, one_more (length g.productions) most, le);
    }

    -- the same when one was opened and then an allocation failed
    pub few_refused : (g' : Grammar) (o' : ℕ → ℕ) (a' most : ℕ) → bits x ≤ most → n < length g.productions → OpensOne n g g' o o' a a'
        → AreOpenedAtMost (most + 1) g o' a'
    few_refused g' o' a' most bound here one = record {
      each = λ q lt. elim (cases_eq q n) [
        | inl e ↦
            let new : o' n ≡ o n + 1 = one.more in
            let none = w.fresh n (omega arith) here in
            subst (λ k. o' k ≤ most + 1) (sym e) (omega (arith, new, none))
        | inr ne ↦ subst (λ k. k ≤ most + 1) (sym (one.others q ne)) ((few_opened most bound (omega (arith, here))).each q lt)
      ];
      together =
          let product : length g.productions * bits x ≤ length g.productions * most = mul-le-mul_left (length g.productions) bound in
          let h = w.together in
          let e = one.together in
          omega (arith, h, e, product, one_more (length g.productions) most, here);
    }

    -- if no production waits, all are covered
    pub visited_all : n ≡ length g.productions → NoneWaits waiting → CoversEach covers g x
    visited_all e none q lt = w.covered q (omega (arith, e, lt)) (none q)

  -- before the first visit
  pub visited_none : (g : Grammar) (x : X) (o : ℕ → ℕ) (a rules positions : ℕ) (dependents : List (List ℕ)) (waiting grown : List Bool) → holds g x
      → rules ≡ g.rules → positions ≡ length g.productions → dependents ≡ replicate rules [] → waiting ≡ replicate positions false → grown ≡ replicate rules false
      → ((q : ℕ) → q < length g.productions → o q ≡ 0) → a ≡ 0
      → Visited holds covers bits depends_on g 0 x dependents waiting grown o a
  visited_none g x o a rules positions dependents waiting grown sound rs ps us ws gs fresh none = record {
    sound = sound;
    rules = ap length us ∙ length-replicate rules [] ∙ rs;
    gains = ap length gs ∙ length-replicate rules false ∙ rs;
    positions = ap length ws ∙ length-replicate positions false ∙ ps;
    idle = λ r. ap (waits_at r) gs ∙ get_or-replicate_default rules r false;
    noted = λ q r h. absurd (omega (arith, h));
    within = λ q r h. absurd (contains_none q (subst (λ l. Contains l q) (ap (λ l. get_or l r []) us ∙ get_or-replicate_default rules r []) h));
    known = λ q h. absurd (both h (ap (waits_at q) ws ∙ get_or-replicate_default positions q false));
    covered = λ q h. absurd (omega (arith, h));
    few = λ q h. absurd (omega (arith, h));
    fresh = λ q h lt. fresh q lt;
    together = let e : bits_on waiting ≡ 0 = ap bits_on ws ∙ bits_on-none positions in omega (arith, e, none);
  }
    where
      waits_at : ℕ → List Bool → Bool
      waits_at q l = get_or l q false
