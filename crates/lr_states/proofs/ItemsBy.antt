-- The items of the steps by one symbol.
use Rattle.std.proofs.Common.{◌≡◌, ◌==◌, ◌&&◌, inl, inr, ℕ, ◌<◌, Bool, not, cond, List, [], ◌∷◌, ◌++◌, Contains, length, refl, sym, ap, ◌∙◌, arith}
use Rattle.std.specs.List.{filter}
use Rattle.std.specs.List.Sorted.{IsStableByKey, ties}
use Rattle.std.specs.Ordering.{is_lt, nat_cmp}
use Rattle.std.proofs.lemmas.Bool.{cases_Bool, false_from_ne_true}
use Rattle.std.proofs.lemmas.Bool.Decides.{Decides-eqb, nat_tests}
use Rattle.std.proofs.lemmas.List.{map-append}
use Rattle.std.proofs.lemmas.List.Elements.{filter-append, filter_agree}
use Rattle.cfgrammar.proofs.Contained.{contains_first, contains_later}
use Rattle.lr_states.specs.declared.successors.Step.{Step}
use Rattle.lr_states.specs.Inner.Steps.{items_by, items_of}
use Rattle.lr_states.specs.Viable.{item_at}

abbrev is_by : ℕ → Step → Bool
is_by node step = step.symbol == node

pub items_by-append : (xs ys : List Step) (node : ℕ) → items_by (xs ++ ys) node ≡ items_by xs node ++ items_by ys node
items_by-append xs ys node = ap items_of (filter-append (is_by node) xs ys) ∙ map-append (λ (s : Step). s.item) (filter (is_by node) xs) (filter (is_by node) ys)

module _ (node : ℕ) where
  -- the first step is by this symbol, or isn't
  first_by : (x : Step) (xs : List Step) → x.symbol ≡ node → items_by (x ∷ xs) node ≡ x.item ∷ items_by xs node
  first_by x xs same = ap (λ b. items_of (cond b (x ∷ filter (is_by node) xs) (filter (is_by node) xs))) ((Decides-eqb x.symbol node).1 same)

  first_apart : (x : Step) (xs : List Step) → (x.symbol ≡ node → ⊥) → items_by (x ∷ xs) node ≡ items_by xs node
  first_apart x xs apart =
      ap (λ b. items_of (cond b (x ∷ filter (is_by node) xs) (filter (is_by node) xs))) (false_from_ne_true _ (λ on. apart ((Decides-eqb x.symbol node).0 on)))

pub items_by_all : (steps : List Step) (node : ℕ) → ((step : Step) → Contains steps step → step.symbol ≡ node) → items_by steps node ≡ items_of steps
items_by_all [] node all = refl
items_by_all (x ∷ xs) node all =
    first_by node x xs (all x (contains_first x xs)) ∙ ap (λ l. x.item ∷ l) (items_by_all xs node (λ s h. all s (contains_later x s xs h)))

pub items_by_none : (steps : List Step) (node : ℕ) → ((step : Step) → Contains steps step → step.symbol ≡ node → ⊥) → items_by steps node ≡ []
items_by_none [] node none = refl
items_by_none (x ∷ xs) node none =
    first_apart node x xs (none x (contains_first x xs)) ∙ items_by_none xs node (λ s h. none s (contains_later x s xs h))

-- some step is by the symbol, if there are items
pub step_by : (steps : List Step) (node : ℕ) → 0 < length (items_by steps node) → (step : Step) × Contains steps step × (step.symbol ≡ node)
step_by [] node some = absurd (omega (arith, some))
step_by (x ∷ xs) node some = elim (cases_Bool (x.symbol == node)) [
  | inl on ↦ (x, contains_first x xs, (Decides-eqb x.symbol node).0 on)
  | inr off ↦
      let rest = ap (λ b. length (items_of (cond b (x ∷ filter (is_by node) xs) (filter (is_by node) xs)))) off in
      let (s, among, is) = step_by xs node (omega (arith, some, rest)) in
      (s, contains_later x s xs among, is)
]

-- steps that tie are by the same symbol
tied : (a b : ℕ) → (b == a) ≡ (not (is_lt (nat_cmp a b)) && not (is_lt (nat_cmp b a)))
tied a b = grind (arith, nat_tests)

-- a stable sort by the symbols keeps the items by each of them
pub items_by-stable : (old new : List Step) → IsStableByKey (λ (s : Step). s.symbol) nat_cmp old new → (node : ℕ) → items_by new node ≡ items_by old node
items_by-stable old new stable node =
    let at : Step = record { symbol = node; item = item_at 0 0 } in
    let test : Step → Bool = ties (λ (x y : Step). is_lt (nat_cmp x.symbol y.symbol)) at in
    let agree : (s : Step) → is_by node s ≡ test s = λ s. tied node s.symbol in
    ap items_of (filter_agree (is_by node) test agree new ∙ stable at ∙ sym (filter_agree (is_by node) test agree old))
