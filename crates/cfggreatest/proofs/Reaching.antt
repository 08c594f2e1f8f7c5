-- What rules of a group cost at least, from the sums of their productions.
use Rattle.std.proofs.Common.{◌≡◌, ℕ, zero, suc, ◌+◌, ◌*◌, ◌<◌, ◌≤◌, ◌⊎◌, inl, inr, ltb, ◌||◌, Bool, true, false, List, [], ◌∷◌, Contains, IsTrue, Option, Some, None, Result, Ok, Err, get_or, append-nil, ltb-true, refl, sym, ap, subst, ◌∙◌, arith, true≢false}
use Rattle.std.proofs.Math.Nat.{mul-le-mul_left}
use Rattle.std.proofs.lemmas.Bool.{cases_Bool, cases_eq, cases_lt, lt-ltb}
use Rattle.std.proofs.lemmas.List.Elements.{All-cons, All-nil}
use Rattle.derivation.specs.Grammar.{Sym, Rule, Token, Grammar, HasProduction}
use Rattle.derivation.specs.Productive.{Unproductive}
use Rattle.derivation.specs.Tree.{Yields, empty, token, opened}
use Rattle.derivation.proofs.Trees.{derivation_from_trees, trees_from_derivation}
use Rattle.derivation.specs.declared.errors.CostError.{CostError}
use Rattle.derivation.specs.declared.errors.CostError.TheVariants.{NoSentence, CostTooLarge}
use Rattle.cfganalysis.specs.ProductiveRules.{AreProductiveRules, AreProductiveSymbols, is_productive_symbol}
use Rattle.cfggreatest.specs.GreatestCosts.{Means}
use Rattle.cfggreatest.specs.Inner.AtLeast.{AtLeast, HasWord, IsUnproductive}
use Rattle.cfggreatest.specs.Inner.Known.{known_cost, read_known, read_symbol}
use Rattle.cfggreatest.specs.Inner.Sums.{AddsSequence, AreNoLess, AreReached, AreUnbounded, CostAtLeast, CostsBeside, GrowsBeside, HaveWords, IsGroup, IsSum, IsUnder, StopsAt, TakesSequence, sequence_cost}
use Rattle.cfggreatest.specs.declared.sums.Sums.{Sums}
use Rattle.cfggreatest.proofs.AtLeast.{at_least_fewer, at_least_none, at_least_rule, greatest_at_least, sequence_above, sequence_at_least, unbounded_at_least}

-- the greatest cost of a rule, if its result is that this is too large
unfoldable pub large_of : (P : ℕ → List Sym → Type 0) (cost : ℕ → ℕ) (r : ℕ) (k : Option (Result (Option ℕ) CostError))
    → ((result : Result (Option ℕ) CostError) → k ≡ Some result → Means P cost r result) → ℕ
large_of P cost r (Some (Err CostTooLarge)) so = (so (Err CostTooLarge) refl).0
large_of P cost r (Some (Err NoSentence)) so = 65536
large_of P cost r (Some (Ok c)) so = 65536
large_of P cost r None so = 65536

pub large_many : (P : ℕ → List Sym → Type 0) (cost : ℕ → ℕ) (r : ℕ) (k : Option (Result (Option ℕ) CostError))
    (so : (result : Result (Option ℕ) CostError) → k ≡ Some result → Means P cost r result) → 65535 < large_of P cost r k so
unfolding large_of
large_many P cost r (Some (Err CostTooLarge)) so = (so (Err CostTooLarge) refl).2
large_many P cost r (Some (Err NoSentence)) so = omega arith
large_many P cost r (Some (Ok c)) so = omega arith
large_many P cost r None so = omega arith

-- a rule that has words costs at least what is known of it
known_reached : (P : ℕ → List Sym → Type 0) (cost : ℕ → ℕ) (n r : ℕ) (k : Option (Result (Option ℕ) CostError))
    (so : (result : Result (Option ℕ) CostError) → k ≡ Some result → Means P cost r result)
    → HasWord P (Rule r ∷ []) → (k ≡ None → AtLeast P cost (Rule r ∷ []) n) → AtLeast P cost (Rule r ∷ []) (known_cost n (large_of P cost r k so) k)
unfolding large_of
known_reached P cost n r None so word inside = inside refl
known_reached P cost n r (Some (Ok None)) so word inside = at_least_none P cost (Rule r ∷ []) word
known_reached P cost n r (Some (Ok (Some c))) so word inside = greatest_at_least P cost r c (so (Ok (Some c)) refl).0
known_reached P cost n r (Some (Err NoSentence)) so word inside = absurd (so (Err NoSentence) refl word.0 (derivation_from_trees P word.1))
known_reached P cost n r (Some (Err CostTooLarge)) so word inside = let h = so (Err CostTooLarge) refl in greatest_at_least P cost r h.0 h.1

-- the rule's costs are unbounded
stops_by : (k : Option (Result (Option ℕ) CostError)) → read_known k ≡ Err (record {}) → k ≡ Some (Ok None)
stops_by None e = absurd (cc)
stops_by (Some (Ok None)) e = refl
stops_by (Some (Ok (Some c))) e = absurd (cc)
stops_by (Some (Err f)) e = absurd (cc)

module _ (cost : ℕ → ℕ) (known : ℕ → Option (Result (Option ℕ) CostError)) (productive : List Bool) (a : List Sym) where
  -- the sum of a list that was added is no greater than the greatest sum
  pub sequence_under : (old new : Sums) → AddsSequence cost known productive a old new → IsUnder cost known productive a new
  sequence_under old new h = record {
    outer = h.outer;
    inner = h.inner;
    all = h.all;
    is = h.is;
    little = let top = h.top in omega (arith, top);
    few = elim h.alone [
      | inl none ↦ inl none
      | inr free ↦ elim (cases_lt 1 h.inner) [
        | inl two ↦ inr (free, inr (h.twice ∙ or_last old.twice (ltb 1 h.inner) (lt-ltb 1 h.inner two)))
        | inr le ↦ elim (cases_eq h.inner 0) [ inl none ↦ inl none | inr some ↦ inr (free, inl (omega (arith, le, some))) ]
      ]
    ];
  }
    where
      or_last : (a b : Bool) → b ≡ true → (a || b) ≡ true
      or_last true b e = refl
      or_last false b e = e

  under_more : (old new : Sums) → AreNoLess old new → IsUnder cost known productive a old → IsUnder cost known productive a new
  under_more old new more h = record {
    outer = h.outer;
    inner = h.inner;
    all = h.all;
    is = h.is;
    little = let le = h.little in let top = more.top in omega (arith, le, top);
    few = elim h.few [
      | inl none ↦ inl none
      | inr k ↦ inr (k.0, elim k.1 [ inl one ↦ inl one | inr twice ↦ inr (more.twice twice) ])
    ];
  }

  pub under_more_all : (P : ℕ → List Sym → Type 0) (old new : Sums) → AreNoLess old new
      → IsUnproductive P a ⊎ IsUnder cost known productive a old → IsUnproductive P a ⊎ IsUnder cost known productive a new
  under_more_all P old new more h = elim h [ inl unproductive ↦ inl unproductive | inr under ↦ inr (under_more old new more under) ]

pub no_less_then : (old mid new : Sums) → AreNoLess old mid → AreNoLess mid new → AreNoLess old new
no_less_then old mid new h k = record { top = let e = h.top in let f = k.top in omega (arith, e, f); twice = λ e. k.twice (h.twice e) }

-- rules that are productive have words
pub words_of : (g : Grammar) (productive : List Bool) → AreProductiveRules g productive → (a : List Sym) → AreProductiveSymbols productive a → (r : ℕ) → Contains a (Rule r)
    → HasWord (HasProduction g) (Rule r ∷ [])
words_of g productive are a all r among =
    let h = (are.productive r).0 (subst (λ s. IsTrue (is_productive_symbol productive s)) among.2 (all among.0 (Rule r) among.1)) in
    (h.0, trees_from_derivation (HasProduction g) (Rule r ∷ []) h.0 h.1)

-- a list that yields a word contains no rule that yields none
pub yields_productive : (g : Grammar) (productive : List Bool) → AreProductiveRules g productive → {a : List Sym} {w : List ℕ} → Yields (HasProduction g) a w
    → AreProductiveSymbols productive a
yields_productive g productive are empty = All-nil (λ s. IsTrue (is_productive_symbol productive s))
yields_productive g productive are (token {t = t} {a = a} h) = All-cons (λ s. IsTrue (is_productive_symbol productive s)) (Token t) a refl (yields_productive g productive are h)
yields_productive g productive are (opened {r = r} {a = a} {u = u} has h k e) = All-cons (λ s. IsTrue (is_productive_symbol productive s)) (Rule r) a
    ((are.productive r).1 (u, derivation_from_trees (HasProduction g) (opened has h empty (sym (append-nil u))))) (yields_productive g productive are k)

-- of rules that have words exactly if one of them does, all have words if it is productive; otherwise none is productive
module _ (g : Grammar) (productive : List Bool) (are : AreProductiveRules g productive) (rules : List ℕ)
    (alike : (r x : ℕ) → Contains rules r → Contains rules x → HasWord (HasProduction g) (Rule r ∷ []) → HasWord (HasProduction g) (Rule x ∷ []))
    (one : ℕ) (first : Contains rules one) where
  pub all_have_words : get_or productive one false ≡ true → HaveWords (HasProduction g) rules
  all_have_words on r among = let h = (are.productive one).0 on in alike one r first among (h.0, trees_from_derivation (HasProduction g) (Rule one ∷ []) h.0 h.1)

  pub none_productive : get_or productive one false ≡ false → (r : ℕ) → Contains rules r → Unproductive (HasProduction g) r
  none_productive off r among w s =
      let h = alike r one among first (w, trees_from_derivation (HasProduction g) (Rule r ∷ []) w s) in
      true≢false (sym ((are.productive one).1 (h.0, derivation_from_trees (HasProduction g) h.1)) ∙ off)

module _ (g : Grammar) (cost : ℕ → ℕ) (productive : List Bool) (known : ℕ → Option (Result (Option ℕ) CostError)) (rules : List ℕ)
    (group : IsGroup g cost productive known rules) (have_words : HaveWords (HasProduction g) rules) where
  abbrev pub large : ℕ → ℕ
  large r = large_of (HasProduction g) cost r (known r) (group.so r)

  many : (r : ℕ) → 65535 < large r
  many r = large_many (HasProduction g) cost r (known r) (group.so r)

  cost_nothing : CostAtLeast (HasProduction g) cost rules 0
  cost_nothing r among = at_least_none (HasProduction g) cost (Rule r ∷ []) (have_words r among)

  -- before the first production
  pub none_reached : AreReached (HasProduction g) cost rules (record { top = 0; twice = false })
  none_reached = record { small = omega arith; costs = cost_nothing; doubles = λ e. absurd (true≢false (sym e)) }

  -- a production of a rule of the group, whose rules are productive
  module _ (rule : ℕ) (in_group : Contains rules rule) (a : List Sym) (has : HasProduction g rule a) (all : AreProductiveSymbols productive a) where
    words : (r : ℕ) → Contains a (Rule r) → HasWord (HasProduction g) (Rule r ∷ [])
    words = words_of g productive group.bits a all

    costs_all : (n : ℕ) → AtLeast (HasProduction g) cost a n → CostAtLeast (HasProduction g) cost rules n
    costs_all n h r among = group.above r rule among in_group cost n (at_least_rule (HasProduction g) cost rule a n has h)

    -- if the group's rules cost n, they cost what the list then costs
    costs_more : (n : ℕ) → CostAtLeast (HasProduction g) cost rules n → CostAtLeast (HasProduction g) cost rules (sequence_cost cost known large n a)
    costs_more n each = costs_all _ (sequence_at_least (HasProduction g) cost _ a (λ r among. known_reached (HasProduction g) cost n r (known r) (group.so r)
        (words r among) (λ none. each r (group.closed rule r in_group (a, has, record { all = all; holds = among }) none))))

    module _ (outer inner : ℕ) (sum : IsSum cost known a outer inner) where
      pub beside : CostsBeside cost known large a outer inner
      beside = sum.sum large many

      pub costs_beside : (n : ℕ) → CostAtLeast (HasProduction g) cost rules n → CostAtLeast (HasProduction g) cost rules (beside.rest + n * inner)
      costs_beside n each = subst (CostAtLeast (HasProduction g) cost rules) (beside.whole n) (costs_more n each)

      costs_outer : CostAtLeast (HasProduction g) cost rules outer
      costs_outer r among = at_least_fewer (HasProduction g) cost _ (beside.rest + 0 * inner) outer (let cut = beside.cut in omega (arith, cut))
          (costs_beside 0 cost_nothing r among)

      costs_double : 1 < inner → (n : ℕ) → CostAtLeast (HasProduction g) cost rules n → CostAtLeast (HasProduction g) cost rules (n + n)
      costs_double two n each r among = at_least_fewer (HasProduction g) cost _ (beside.rest + n * inner) (n + n)
          (let twice : n * 2 ≤ n * inner = mul-le-mul_left n (omega (arith, two)) in omega (arith, twice)) (costs_beside n each r among)

      costs_grow : 0 < outer → 0 < inner → AreUnbounded (HasProduction g) cost rules
      costs_grow some one zero r among = cost_nothing r among
      costs_grow some one (suc n) r among = at_least_fewer (HasProduction g) cost _ (beside.rest + n * inner) (suc n)
          (let once : n * 1 ≤ n * inner = mul-le-mul_left n (omega (arith, one)) in let cut = beside.cut in omega (arith, once, cut, some))
          (costs_beside n (costs_grow some one n) r among)

    -- the sum of the list was added
    reached_more : (old new : Sums) → AreReached (HasProduction g) cost rules old → AddsSequence cost known productive a old new → AreReached (HasProduction g) cost rules new
    reached_more old new reached h = record {
      small = let small = reached.small in let top = h.top in let cut = (h.is.sum large many).cut in omega (arith, small, top, cut);
      costs = λ r among. elim (cases_lt old.top h.outer) [
        | inl less ↦ let top = h.top in at_least_fewer (HasProduction g) cost _ h.outer new.top (omega (arith, less, top)) (costs_outer h.outer h.inner h.is r among)
        | inr no_less ↦ let top = h.top in at_least_fewer (HasProduction g) cost _ old.top new.top (omega (arith, no_less, top)) (reached.costs r among)
      ];
      doubles = λ e. elim (cases_Bool old.twice) [
        | inl was ↦ reached.doubles was
        | inr none ↦ costs_double h.outer h.inner h.is (ltb-true 1 h.inner (sym (ap (λ b. b || ltb 1 h.inner) none) ∙ sym h.twice ∙ e))
      ];
    }

    -- the list makes costs grow
    pub sequence_grows : StopsAt cost known a ⊎ GrowsBeside cost known a → AreUnbounded (HasProduction g) cost rules
    sequence_grows (inr h) = costs_grow h.outer h.inner h.is h.some h.one
    sequence_grows (inl h) = by h.0 h.1 h.2
      where
        by : (s : Sym) → Contains a s → read_symbol cost known s ≡ Err (record {}) → AreUnbounded (HasProduction g) cost rules
        by (Token t) among e = absurd (cc)
        by (Rule x) among e = λ n. costs_all n (sequence_above (HasProduction g) a x among words cost n
            (unbounded_at_least (HasProduction g) cost x n (group.so x (Ok None) (stops_by (known x) e))))

  -- a production of a rule of the group was added
  pub sequence_taken : (rule : ℕ) → Contains rules rule → (a : List Sym) → HasProduction g rule a → (old new : Sums)
      → AreReached (HasProduction g) cost rules old → TakesSequence cost known productive a old new
      → AreReached (HasProduction g) cost rules new × (IsUnproductive (HasProduction g) a ⊎ IsUnder cost known productive a new) × AreNoLess old new
  sequence_taken rule in_group a has old new reached (inl h) = (
    subst (AreReached (HasProduction g) cost rules) (sym h.1) reached,
    inl (λ w tree. h.0 (yields_productive g productive group.bits tree)),
    subst (AreNoLess old) (sym h.1) (record { top = omega arith; twice = λ e. e }),
  )
  sequence_taken rule in_group a has old new reached (inr h) = (
    reached_more rule in_group a has h.all old new reached h,
    inr (sequence_under cost known productive a old new h),
    record { top = let top = h.top in omega (arith, top); twice = λ e. h.twice ∙ ap (λ b. b || ltb 1 h.inner) e },
  )
