-- Targets in ascending order, and a binary search among them.
use Rattle.std.proofs.Common.{◌≡◌, ◌==◌, ◌↔◌, inl, inr, ℕ, zero, suc, ◌<◌, ◌≤◌, Bool, true, false, cond, List, [], ◌∷◌, Some, All, get_or, length, map, slice_get, sym, ap, subst, ◌∙◌, arith, ltb, lt-ltb, true≢false}
use Rattle.std.specs.List.Sorted.{IsPartitionPoint, IsPartitionedBy}
use Rattle.std.proofs.lemmas.Bool.{cases_Bool, cases_lt, ltb-true}
use Rattle.std.proofs.lemmas.Bool.Decides.{Decides-eqb}
use Rattle.std.proofs.lemmas.List.{length-map}
use Rattle.std.proofs.lemmas.Option.{get_or_from_slice_get, slice_get-get_or, slice_get-map, slice_get_within}
use Rattle.std.specs.Prelude.{option_map}
use Rattle.cfgrammar.specs.Grammar.{Grammar}
use Rattle.search.proofs.PathGroups.{contains_there}
use Rattle.lr_states.specs.declared.kernels.Target.{Target}
use Rattle.lr_states.specs.declared.kernels.Visited.{Visited}
use Rattle.lr_states.specs.Automaton.{AreAscending, HaveTargets, target_of}

abbrev targets_of : Visited → List Target
targets_of v = v.targets.items

pub not_same : (a b : ℕ) → a < b → (a == b) ≡ false
not_same a b lt = elim (cases_Bool (a == b)) [ inl same ↦ absurd (omega (arith, lt, (Decides-eqb a b).0 same)) | inr apart ↦ apart ]

pub symbol_rises : (targets : List Target) → AreAscending targets → (i j : ℕ) (a b : Target) → i ≤ j → slice_get targets i ≡ Some a → slice_get targets j ≡ Some b → a.symbol ≤ b.symbol
symbol_rises [] ascending i j a b most at there = absurd (cc)
symbol_rises (t ∷ targets) ascending zero zero a b most at there = let same : a ≡ b = cc in let symbols = ap (λ (z : Target). z.symbol) same in omega (arith, symbols)
symbol_rises (t ∷ targets) ascending zero (suc j) a b most at there =
    let same : t ≡ a = cc in
    let less = subst (λ (z : Target). z.symbol < b.symbol) same (ascending.0 b (contains_there targets j b there)) in omega (arith, less)
symbol_rises (t ∷ targets) ascending (suc i) zero a b most at there = absurd (omega (arith, most))
symbol_rises (t ∷ targets) ascending (suc i) (suc j) a b most at there = symbol_rises targets ascending.1 i j a b (omega (arith, most)) at there

-- the state of a target
pub target_state : (targets : List Target) → AreAscending targets → (i : ℕ) (target : Target) → slice_get targets i ≡ Some target → target_of targets target.symbol ≡ Some target.state
target_state [] ascending i target at = absurd (cc)
target_state (t ∷ targets) ascending zero target at =
    let same : t ≡ target = cc in
    ap (λ b. cond b (Some t.state) (target_of targets target.symbol)) ((Decides-eqb t.symbol target.symbol).1 (ap (λ (u : Target). u.symbol) same))
    ∙ ap (λ (u : Target). Some u.state) same
target_state (t ∷ targets) ascending (suc i) target at =
    ap (λ b. cond b (Some t.state) (target_of targets target.symbol)) (not_same t.symbol target.symbol (ascending.0 target (contains_there targets i target at)))
    ∙ target_state targets ascending.1 i target at

-- an element passes exactly if it comes before the point up to which they do
pub first_passes : {A : Type 0} (test : A → Bool) (xs : List A) (n : ℕ) → IsPartitionPoint (λ x. test x ≡ true) (λ x. test x ≡ false) xs n
    → (i : ℕ) (x : A) → slice_get xs i ≡ Some x → (test x ≡ true) ↔ (i < n)
first_passes test xs n (low, high) i x at =
    let read = get_or_from_slice_get xs i x x at in (
      (λ passes. elim (cases_lt i n) [
        | inl early ↦ early
        | inr late ↦ absurd (true≢false (sym (ap test read ∙ passes) ∙ high i x late (slice_get_within xs i x at)))
      ]),
      (λ early. ap test (sym read) ∙ low i x (omega arith) early),
    )

pub targets_parted : (targets : List Target) → AreAscending targets → (node : ℕ) → IsPartitionedBy (λ (target : Target). ltb target.symbol node) targets
targets_parted targets ascending node i j d most within low =
    let less = symbol_rises targets ascending i j (get_or targets i d) (get_or targets j d) most (slice_get-get_or targets i d (omega (arith, most, within))) (slice_get-get_or targets j d within) in
    let below = ltb-true (get_or targets j d).symbol node low in
    lt-ltb (get_or targets i d).symbol node (omega (arith, less, below))

-- no target has the symbol, if that at the point doesn't
pub symbol_missing : (targets : List Target) → AreAscending targets → (node place : ℕ)
    → IsPartitionPoint (λ (target : Target). ltb target.symbol node ≡ true) (λ (target : Target). ltb target.symbol node ≡ false) targets place
    → (d : Target) → (place < length targets → (get_or targets place d).symbol ≡ node → ⊥) → (i : ℕ) (target : Target) → slice_get targets i ≡ Some target → target.symbol ≡ node → ⊥
symbol_missing targets ascending node place (low, high) d none i target at same =
    let within = slice_get_within targets i target at in
    let read = get_or_from_slice_get targets i target d at in
    elim (cases_lt i place) [
      | inl early ↦
          let less = ltb-true target.symbol node (subst (λ (t : Target). ltb t.symbol node ≡ true) read (low i d (omega arith) early)) in
          omega (arith, less, same)
      | inr late ↦
          let there : place < length targets = omega (arith, late, within) in
          let least = ge-from-ltb (get_or targets place d).symbol node (high place d (omega arith) there) in
          let most = symbol_rises targets ascending place i (get_or targets place d) target late (slice_get-get_or targets place d there) at in
          none there (omega (arith, least, most, same))
    ]
  where
    ge-from-ltb : (a b : ℕ) → ltb a b ≡ false → b ≤ a
    ge-from-ltb a b e = elim (cases_lt a b) [ inl less ↦ absurd (true≢false (sym (lt-ltb a b less) ∙ e)) | inr most ↦ most ]

-- the targets of all states are ascending, if those of each state are
pub all_ascending : (g : Grammar) (rules : ℕ) (visited : List Visited)
    → HaveTargets g (record { rules = rules; states = map (λ (v : Visited). v.items.items) visited; targets = map targets_of visited })
    → All (λ (v : Visited). AreAscending v.targets.items) visited
all_ascending g rules visited have k d within =
    let long = length-map visited (λ (v : Visited). v.items.items) in
    let at : slice_get (map targets_of visited) k ≡ Some (targets_of (get_or visited k d)) = slice_get-map targets_of visited k ∙ ap (option_map targets_of) (slice_get-get_or visited k d within) in
    subst AreAscending (get_or_from_slice_get (map targets_of visited) k (targets_of (get_or visited k d)) [] at) (have.ascending k (omega (arith, long, within)))
