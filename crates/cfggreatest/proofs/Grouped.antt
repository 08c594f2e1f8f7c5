-- The greatest sum of a group's productions is the greatest cost of its rules, unless a production makes them grow.
use Rattle.std.proofs.Common.{◌≡◌, ℕ, zero, suc, ◌+◌, ◌*◌, ◌<◌, ◌≤◌, ◌⊎◌, inl, inr, ltb, leb, min, ◌&&◌, Bool, true, false, cond, List, [], ◌∷◌, All, Contains, Option, Some, None, Result, Ok, Err, length, sum_by, ltb-false, ltb-true, refl, sym, ap, subst, ◌∙◌, arith, below_more}
use Rattle.std.proofs.lemmas.Bool.{and_parts, cases_Bool, cases_lt}
use Rattle.std.proofs.lemmas.Bool.Decides.{leb_tells}
use Rattle.std.proofs.lemmas.List.{get_or_default}
use Rattle.std.proofs.lemmas.List.Elements.{All-cons, All-nil, Contains-get_or}
use Rattle.std.proofs.lemmas.List.Sums.{sum_by-cons}
use Rattle.derivation.specs.Grammar.{Sym, Rule, Grammar, Production, HasProduction}
use Rattle.derivation.specs.Sentence.{cost_of}
use Rattle.derivation.specs.Costs.{Greatest}
use Rattle.derivation.specs.Tree.{Yields}
use Rattle.derivation.proofs.Trees.{derivation_from_trees, trees_from_derivation}
use Rattle.derivation.specs.declared.errors.CostError.{CostError}
use Rattle.derivation.specs.declared.errors.CostError.TheVariants.{NoSentence, CostTooLarge}
use Rattle.search.proofs.Members.{contains_or_not}
use Rattle.cfgtables.specs.Openings.{nth_production}
use Rattle.cfggreatest.specs.GreatestCosts.{Means}
use Rattle.cfggreatest.specs.Inner.AtLeast.{IsUnproductive, weigh}
use Rattle.cfggreatest.specs.Inner.Known.{group_result, known_cost, read_known}
use Rattle.cfggreatest.specs.Inner.Sums.{AreReached, AreUnder, CostAtLeast, HaveWords, IsGroup, IsRead, sequence_cost}
use Rattle.cfggreatest.specs.declared.sums.Sums.{Sums}
use Rattle.cfggreatest.proofs.AtLeast.{at_least_fewer, at_least_none, sequence_most, unbounded_from}
use Rattle.cfggreatest.proofs.Reaching.{beside, costs_beside, large, large_of}

-- what is known of a rule bounds its words, if its productions do when the rule is in the group
known_bound : (P : ℕ → List Sym → Type 0) (cost : ℕ → ℕ) (n r : ℕ) (k : Option (Result (Option ℕ) CostError)) (so : (result : Result (Option ℕ) CostError) → k ≡ Some result → Means P cost r result)
    (o : Option ℕ) → read_known k ≡ Ok o → (F : Type 0) → (k ≡ None → F)
    → (w : List ℕ) → Yields P (Rule r ∷ []) w → (F × (known_cost n (large_of P cost r k so) k ≡ n)) ⊎ (cost_of cost w ≤ known_cost n (large_of P cost r k so) k)
unfolding large_of
known_bound P cost n r None so o e F inside w tree = inl (inside refl, refl)
known_bound P cost n r (Some (Ok None)) so o e F inside w tree = absurd (cc)
known_bound P cost n r (Some (Ok (Some c))) so o e F inside w tree = inr ((so (Ok (Some c)) refl).0.1 w (derivation_from_trees P tree))
known_bound P cost n r (Some (Err NoSentence)) so o e F inside w tree = absurd (so (Err NoSentence) refl w (derivation_from_trees P tree))
known_bound P cost n r (Some (Err CostTooLarge)) so o e F inside w tree = inr ((so (Err CostTooLarge) refl).1.1 w (derivation_from_trees P tree))

module _ (g : Grammar) (cost : ℕ → ℕ) (productive : List Bool) (known : ℕ → Option (Result (Option ℕ) CostError)) (rules : List ℕ)
    (group : IsGroup g cost productive known rules) (have_words : HaveWords (HasProduction g) rules)
    (x : Sums) (reached : AreReached (HasProduction g) cost rules x)
    (under : (r : ℕ) → Contains rules r → AreUnder (HasProduction g) cost known productive r x) where
  abbrev IsInside : Sym → Type 0
  IsInside s = IsRead cost known s × ((r : ℕ) → s ≡ Rule r → known r ≡ None → Contains rules r)

  -- a list that costs at most `most`, if rules of the group do, unless they grow
  record IsKept (most : ℕ) (a : List Sym) : Type 0 where
    inner : ℕ
    rest : ℕ
    inside : All IsInside a
    whole : (k : ℕ) → sequence_cost cost known (large g cost productive known rules group have_words) k a ≡ rest + k * inner
    little : rest ≤ most
    few : (inner ≡ 0) ⊎ ((rest ≡ 0) × ((inner ≡ 1) ⊎ (x.twice ≡ true)))

  abbrev AreKept : ℕ → Production → Type 0
  AreKept most p = Contains rules p.rule → IsUnproductive (HasProduction g) p.symbols ⊎ IsKept most p.symbols

  kept_more : (most more : ℕ) → most ≤ more → (p : Production) → AreKept most p → AreKept more p
  kept_more most more le p kept among = elim (kept among) [
    | inl unproductive ↦ inl unproductive
    | inr h ↦ inr (record { inner = h.inner; rest = h.rest; inside = h.inside; whole = h.whole; little = let e = h.little in omega (arith, e, le); few = h.few })
  ]

  cost_nothing : CostAtLeast (HasProduction g) cost rules 0
  cost_nothing r among = at_least_none (HasProduction g) cost (Rule r ∷ []) (have_words r among)

  -- the greatest sum of the first n productions
  record Most (n : ℕ) : Type 0 where
    most : ℕ
    lower : CostAtLeast (HasProduction g) cost rules most
    cap : min most 65536 ≤ x.top
    kept : (q : ℕ) → q < n → AreKept most (nth_production g q)

  one_more : (n : ℕ) → n < length g.productions → Most n → Contains rules (nth_production g n).rule → Most (suc n)
  one_more n lt before among = elim (under p.rule among p.symbols has) [
    | inl unproductive ↦ with_sequence before.most before.lower before.cap (omega arith) (λ _. inl unproductive)
    | inr u ↦
        let b = beside g cost productive known rules group have_words p.rule among p.symbols has u.all u.outer u.inner u.is in
        let cut = b.cut in
        let little = u.little in
        let sequence : (most : ℕ) → b.rest ≤ most → AreKept most p = λ most few _. inr (record {
          inner = u.inner;
          rest = b.rest;
          inside = λ k d lt'. (
            u.is.read k d lt',
            λ r e none. group.closed p.rule r among
                (p.symbols, has, record { all = u.all; holds = (k, lt', get_or_default p.symbols k (Rule r) d lt' ∙ e) }) none,
          );
          whole = b.whole;
          little = few;
          few = elim u.few [ inl none ↦ inl none | inr k ↦ inr (let free = k.0 in omega (arith, cut, free), k.1) ];
        }) in
        elim (cases_lt before.most b.rest) [
          | inl less ↦ with_sequence b.rest (λ r among'. at_least_fewer (HasProduction g) cost _ (b.rest + 0 * u.inner) b.rest (omega arith)
              (costs_beside g cost productive known rules group have_words p.rule among p.symbols has u.all u.outer u.inner u.is 0 cost_nothing r among'))
              (omega (arith, cut, little)) (omega (arith, less)) (sequence b.rest (omega arith))
          | inr more ↦ with_sequence before.most before.lower before.cap (omega arith) (sequence before.most more)
        ]
  ]
    where
      p : Production
      p = nth_production g n

      has : HasProduction g (nth_production g n).rule (nth_production g n).symbols
      has = Contains-get_or g.productions n _ lt

      with_sequence : (most : ℕ) → CostAtLeast (HasProduction g) cost rules most → min most 65536 ≤ x.top → before.most ≤ most → AreKept most (nth_production g n) → Most (suc n)
      with_sequence most lower limit more sequence = record {
        most = most;
        lower = lower;
        cap = limit;
        kept = λ q lt'. below_more (λ q. AreKept most (nth_production g q)) n (λ q lt''. kept_more before.most most more (nth_production g q) (before.kept q lt'')) sequence q (omega (arith, lt'));
      }

  find_most : (n : ℕ) → n ≤ length g.productions → Most n
  find_most zero le = record { most = 0; lower = cost_nothing; cap = omega arith; kept = λ q lt. absurd (omega (arith, lt)) }
  find_most (suc n) le =
      let before = find_most n (omega (arith, le)) in
      elim (contains_or_not rules (nth_production g n).rule) [
        | inl among ↦ one_more n (omega (arith, le)) before among
        | inr out ↦ record {
          most = before.most;
          lower = before.lower;
          cap = before.cap;
          kept = λ q lt. below_more (λ q. AreKept before.most (nth_production g q)) n before.kept (λ among. absurd (out among)) q (omega (arith, lt));
        }
      ]

  module _ (m : Most (length g.productions)) (grows : (x.twice && ltb 0 x.top) ≡ false) where
    abbrev costs : ℕ → ℕ
    costs r = known_cost m.most (large g cost productive known rules group have_words r) (known r)

    sequence_little : (a : List Sym) → IsKept m.most a → sum_by (weigh cost costs) a ≤ m.most
    sequence_little a h =
        let whole = h.whole m.most in
        let little = h.little in
        elim h.few [
          | inl none ↦ omega (arith, whole, little, ap (λ n. m.most * n) none)
          | inr k ↦
              let free = k.0 in
              elim k.1 [
                | inl one ↦ omega (arith, whole, free, ap (λ n. m.most * n) one)
                | inr twice ↦
                    let cap = m.cap in
                    let top = ltb-false 0 x.top (ap (λ b. b && ltb 0 x.top) (sym twice) ∙ grows) in
                    let none : m.most ≡ 0 = omega (arith, cap, top) in
                    omega (arith, whole, free, ap (λ n. n * h.inner) none)
              ]
        ]

    cost_here : (r : ℕ) → Contains rules r → costs r ≡ m.most
    cost_here r among = ap (known_cost m.most (large g cost productive known rules group have_words r)) (group.unsettled r among)

    -- no sentence of the group's rules costs more
    bound : (r : ℕ) → Contains rules r → (w : List ℕ) → Yields (HasProduction g) (Rule r ∷ []) w → cost_of cost w ≤ m.most
    bound r among w tree =
        let all = sequence_most (HasProduction g) cost costs IsInside (λ q w' inside tree'.
        elim (known_bound (HasProduction g) cost m.most q (known q) (group.so q) inside.0.0 inside.0.1
        ((symbols : List Sym) → HasProduction g q symbols → IsUnproductive (HasProduction g) symbols ⊎ IsKept m.most symbols) (λ none symbols has.
        subst (AreKept m.most) (get_or_default g.productions has.0 _ _ has.1 ∙ has.2) (m.kept has.0 has.1) (inside.1 q refl none)) w' tree') [
          | inl f ↦ inl (λ symbols has. elim (f.0 symbols has) [
            | inl unproductive ↦ inl unproductive
            | inr kept ↦ inr (kept.inside, subst (λ n. sum_by (weigh cost costs) symbols ≤ n) (sym f.1) (sequence_little symbols kept))
          ])
          | inr few ↦ inr few
        ]) tree (All-cons IsInside (Rule r) [] (
          (None, ap read_known (group.unsettled r among)),
          λ q e _. subst (Contains rules) (let same : r ≡ q = cc in same) among,
        ) (All-nil IsInside)) in
        omega (arith, all, sum_by-cons (weigh cost costs) (Rule r) [], cost_here r among)

    greatest : (r : ℕ) → Contains rules r → Greatest (HasProduction g) cost r m.most
    greatest r among =
        let h = m.lower r among in
        let enough = h.enough in
        let few = bound r among h.word h.tree in (
          (h.word, derivation_from_trees (HasProduction g) h.tree, omega (arith, enough, few)),
          λ w s. bound r among w (trees_from_derivation (HasProduction g) (Rule r ∷ []) w s),
        )

    top_below : (r : ℕ) → Contains rules r → x.top ≤ m.most
    top_below r among = let h = reached.costs r among in let enough = h.enough in let few = bound r among h.word h.tree in omega (arith, enough, few)

  grow_all : x.twice ≡ true → 0 < x.top → (n : ℕ) → CostAtLeast (HasProduction g) cost rules n
  grow_all twice some zero r among = cost_nothing r among
  grow_all twice some (suc n) r among = elim (cases_lt 0 n) [
    | inl more ↦ at_least_fewer (HasProduction g) cost _ (n + n) (suc n) (omega (arith, more)) (reached.doubles twice n (grow_all twice some n) r among)
    | inr none ↦ at_least_fewer (HasProduction g) cost _ x.top (suc n) (omega (arith, none, some)) (reached.costs r among)
  ]

  -- what the sums say of the rules of the group is true
  pub group_means : (r : ℕ) → Contains rules r → Means (HasProduction g) cost r (group_result x.top x.twice)
  group_means r among = elim (cases_Bool (x.twice && ltb 0 x.top)) [
    | inl e ↦ let b = and_parts x.twice (ltb 0 x.top) e in
        subst (Means (HasProduction g) cost r) (sym (ap (λ b. cond b (Ok None) (cond (leb x.top 65535) (Ok (Some x.top)) (Err CostTooLarge))) e))
        (unbounded_from (HasProduction g) cost r (λ n. grow_all b.0 (ltb-true 0 x.top b.1) n r among))
    | inr e ↦
        let m = find_most (length g.productions) (omega arith) in
        let cap = m.cap in
        let le = top_below m e r among in
        subst (Means (HasProduction g) cost r) (sym (ap (λ b. cond b (Ok None) (cond (leb x.top 65535) (Ok (Some x.top)) (Err CostTooLarge))) e))
        (elim (leb_tells x.top 65535) [
          | inl h ↦ subst (Means (HasProduction g) cost r) (sym (ap (λ b. cond b (Ok (Some x.top)) (Err CostTooLarge)) h.0))
              (let small = h.1 in let same : m.most ≡ x.top = omega (arith, cap, le, small) in
              (subst (Greatest (HasProduction g) cost r) same (greatest m e r among), small))
          | inr h ↦ subst (Means (HasProduction g) cost r) (sym (ap (λ b. cond b (Ok (Some x.top)) (Err CostTooLarge)) h.0))
              (m.most, greatest m e r among, let large' = h.1 in omega (arith, large', le))
        ])
  ]
