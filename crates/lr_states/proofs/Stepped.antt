-- Items after a symbol is read, one item after another.
use Rattle.std.proofs.Common.{◌≡◌, ◌==◌, ◌⊎◌, inl, inr, ℕ, ◌+◌, ◌<◌, ◌≤◌, List, [], ◌∷◌, ◌++◌, Option, None, Some, cond, false, Contains, get_or, length, slice_get, take, refl, sym, ap, subst, ◌∙◌, arith}
use Rattle.std.specs.List.{flat_map}
use Rattle.std.proofs.lemmas.Bool.{cases_Bool}
use Rattle.std.proofs.lemmas.Bool.Decides.{Decides-eqb}
use Rattle.std.proofs.lemmas.List.{flat_map_more, get_or-map, take_more}
use Rattle.std.proofs.lemmas.Option.{get_or_from_slice_get, slice_get_within}
use Rattle.cfgrammar.specs.Grammar.{Grammar, Production, Sym}
use Rattle.cfgrammar.specs.Numbered.{Numbered, NumberedProduction, core, production_core}
use Rattle.cfgrammar.specs.WellNumbered.{IsWellNumbered}
use Rattle.cfgrammar.proofs.Elements.{element_at}
use Rattle.cfgrammar.specs.Openings.{nth_production}
use Rattle.cfgrammar.proofs.Contained.{contains_first, contains_none, contains_one}
use Rattle.cfgrammar.proofs.Joins.{flat_contains, flat_source}
use Rattle.lr_states.specs.declared.Item.{Item}
use Rattle.lr_states.specs.Inner.Closure.{AreAdvanced, IsAdvanced, node_of, step_at, step_of}
use Rattle.lr_states.specs.Viable.{AreSorted, HasNext, IsBefore, item_at}

module _ (g : Grammar) (node : ℕ) where
  -- the item after this symbol is read, if the symbol has this number
  abbrev after : Item → Item
  after item = item_at item.production (item.read + 1)

  record IsStep (item new : Item) : Type 0 where
    symbol : Sym
    next : HasNext g item symbol
    at : node_of g symbol ≡ node
    is : new ≡ after item

  step_here : (item : Item) (x : Sym) → HasNext g item x → node_of g x ≡ node → step_of g node item ≡ after item ∷ []
  step_here item x next at = ap (step_at g node item) next ∙ ap (λ b. cond b (after item ∷ []) []) ((Decides-eqb (node_of g x) node).1 at)

  step_elsewhere : (item : Item) (x : Sym) → HasNext g item x → (node_of g x == node) ≡ false → step_of g node item ≡ []
  step_elsewhere item x next apart = ap (step_at g node item) next ∙ ap (λ b. cond b (after item ∷ []) []) apart

  -- an item has one step, or none
  step_cases : (item : Item) → IsStep item (after item) × (step_of g node item ≡ after item ∷ []) ⊎ (step_of g node item ≡ [])
  step_cases item = go (slice_get (nth_production g item.production).symbols item.read) refl
    where
      go : (o : Option Sym) → slice_get (nth_production g item.production).symbols item.read ≡ o
          → (IsStep item (after item) × (step_of g node item ≡ after item ∷ [])) ⊎ (step_of g node item ≡ [])
      go None none = inr (ap (step_at g node item) none)
      go (Some x) next = elim (cases_Bool (node_of g x == node)) [
        | inl on ↦
            let at = (Decides-eqb (node_of g x) node).0 on in
            inl (record { symbol = x; next = next; at = at; is = refl }, step_here item x next at)
        | inr off ↦ inr (step_elsewhere item x next off)
      ]

  step_contained : (item new : Item) → Contains (step_of g node item) new → IsStep item new
  step_contained item new h = elim (step_cases item) [
    | inl one ↦ subst (IsStep item) (contains_one (after item) new (subst (λ l. Contains l new) one.1 h)) one.0
    | inr none ↦ absurd (contains_none new (subst (λ l. Contains l new) none h))
  ]

  advanced_by : (items : List Item) (new : Item) → Contains (flat_map (step_of g node) items) new → IsAdvanced g items node new
  advanced_by items new h =
      let (item, among, gives) = flat_source (step_of g node) items new h in
      let s = step_contained item new gives in
      let production : new.production ≡ item.production = ap (λ (x : Item). x.production) s.is in
      record {
        read = item.read;
        is = ap (λ (x : Item). x.read) s.is;
        from = subst (λ p. Contains items (item_at p item.read)) (sym production) among;
        symbol = s.symbol;
        next = subst (λ p. HasNext g (item_at p item.read) s.symbol) (sym production) s.next;
        at = s.at;
      }

  by_advanced : (items : List Item) (new : Item) → IsAdvanced g items node new → Contains (flat_map (step_of g node) items) new
  by_advanced items new a =
      let item = item_at new.production a.read in
      let same : after item ≡ new = λ i. item_at new.production (sym a.is i) in
      flat_contains (step_of g node) items item new a.from
      (subst (λ l. Contains l new) (sym (step_here item a.symbol a.next a.at)) (subst (Contains (after item ∷ [])) same (contains_first (after item) [])))

  before_after : (a b : Item) → IsBefore a b → IsBefore (after a) (after b)
  before_after a b (inl less) = inl (omega (arith, less))
  before_after a b (inr same) = let equal = same.0 in inr (omega (arith, equal), same.1)

  steps_sorted : (items : List Item) → AreSorted items → AreSorted (flat_map (step_of g node) items)
  steps_sorted [] sorted = tt
  steps_sorted (x ∷ xs) sorted = elim (step_cases x) [
    | inl one ↦ subst (λ l. AreSorted (l ++ flat_map (step_of g node) xs)) (sym one.1) (
      (λ y h.
          let (item, among, gives) = flat_source (step_of g node) xs y h in
          subst (IsBefore (after x)) (sym (step_contained item y gives).is) (before_after x item (sorted.0 item among))),
      steps_sorted xs sorted.1,
    )
    | inr none ↦ subst (λ l. AreSorted (l ++ flat_map (step_of g node) xs)) (sym none) (steps_sorted xs sorted.1)
  ]

  pub steps_advanced : (items : List Item) → AreAdvanced g items node (flat_map (step_of g node) items)
  steps_advanced items = record { all = λ item. (advanced_by items item, by_advanced items item); sorted = steps_sorted items }

pub steps_more : {A B : Type 0} (f : A → List B) (xs : List A) (i : ℕ) (x : A) → i < length xs → x ≡ get_or xs i x → flat_map f (take i xs) ++ f x ≡ flat_map f (take (i + 1) xs)
steps_more f xs i x within is =
    flat_map_more f [] (take i xs) x ∙ ap (λ y. flat_map f (take i xs ++ y ∷ [])) is ∙ sym (ap (flat_map f) (take_more xs i x within))

-- the next symbol's offset fits
pub read_fits : (max : ℕ) (g : Numbered) → IsWellNumbered max g → (item : Item) → item.production < length g.productions → (x : Sym) → HasNext (core g) item x → item.read < max
read_fits max g is item within x next =
    let there = slice_get_within (nth_production (core g) item.production).symbols item.read x next in
    let (p, read) = element_at g.productions item.production within in
    let same : nth_production (core g) item.production ≡ production_core p =
    get_or-map production_core g.productions item.production p _ within ∙ ap production_core (get_or_from_slice_get g.productions item.production p p read) in
    let most : length p.symbols ≤ max = subst (λ (q : NumberedProduction). length q.symbols ≤ max) (get_or_from_slice_get g.productions item.production p p read)
    (is.counted.symbols item.production p within) in
    let long = ap (λ (q : Production). length q.symbols) same in
    omega (arith, there, most, long)
