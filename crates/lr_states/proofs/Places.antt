-- Where an item or a target is in its list.
use Rattle.std.proofs.Common.{◌≡◌, ◌==◌, inl, inr, ℕ, zero, suc, ◌+◌, ◌<◌, ◌≤◌, Bool, true, false, cond, not, nat_lt, ◌↔◌, List, [], ◌∷◌, Option, None, Some, Contains, IsTrue, get_or, length, slice_get, refl, sym, ap, subst, ◌∙◌, arith, ltb, lt-ltb, true≢false}
use Rattle.std.specs.Prelude.{is_some, option_map, position}
use Rattle.std.specs.Bool.{Decides}
use Rattle.std.specs.List.{position_or_len}
use Rattle.std.specs.List.Sorted.{IsPartitionPoint, IsPartitionedBy}
use Rattle.std.proofs.lemmas.Bool.{cases_Bool, cases_eq, cases_lt, ltb-true}
use Rattle.std.proofs.lemmas.Bool.Decides.{Decides-and, Decides-eqb, Decides-like, Decides-ltb, Decides-or}
use Rattle.std.proofs.lemmas.List.Elements.{Contains-get_or}
use Rattle.std.proofs.lemmas.List.Quantifiers.{position-Some}
use Rattle.std.proofs.lemmas.Option.{get_or_from_slice_get, slice_get-get_or, slice_get_within}
use Rattle.lr_states.specs.declared.Item.{Item}
use Rattle.lr_states.specs.declared.kernels.Target.{Target}
use Rattle.lr_states.specs.Automaton.{AreAscending, target_of}
use Rattle.lr_states.specs.Viable.{AreSorted, IsBefore}
use Rattle.search.proofs.PathGroups.{contains_at, contains_there}
use Rattle.lr_states.proofs.Order.{before_not_after}
use Rattle.lr_states.proofs.Targets.{not_same, symbol_missing, target_state}
use Rattle.lr_states.specs.Lookaheads.{is_item}
use Rattle.lr_states.specs.Inner.Numbers.{is_before, place_of_item, place_of_symbol}

pub same_item : (a b : Item) → Decides (is_item a b) (a ≡ b)
same_item a b = Decides-like _
    (λ h. λ i. record { production = h.0 i; read = h.1 i })
    (λ e. (ap (λ (z : Item). z.production) e, ap (λ (z : Item). z.read) e))
    (Decides-and _ _ (Decides-eqb a.production b.production) (Decides-eqb a.read b.read))

before_apart : (a b : Item) → IsBefore a b → is_item b a ≡ false
before_apart a b before = elim (cases_Bool (is_item b a)) [
  | inl same ↦ let itself = subst (IsBefore a) ((same_item b a).0 same) before in absurd (before_not_after a a itself itself)
  | inr apart ↦ apart
]

pub item_placed : (items : List Item) → AreSorted items → (i : ℕ) (item : Item) → slice_get items i ≡ Some item → place_of_item items item ≡ i
item_placed [] sorted i item at = absurd (cc)
item_placed (x ∷ items) sorted zero item at =
    let same : x ≡ item = cc in
    ap (λ b. cond (not b) (1 + place_of_item items item) 0) ((same_item item x).1 (sym same))
item_placed (x ∷ items) sorted (suc i) item at =
    ap (λ b. cond (not b) (1 + place_of_item items item) 0) (before_apart x item (sorted.0 item (contains_there items i item at)))
    ∙ (let later = item_placed items sorted.1 i item at in omega (arith, later))

-- the place of an item of the list
pub place_holds : (items : List Item) → AreSorted items → (item : Item) → Contains items item → slice_get items (place_of_item items item) ≡ Some item
place_holds items sorted item h =
    let (i, at) = contains_at items item h in
    subst (λ n. slice_get items n ≡ Some item) (sym (item_placed items sorted i item at)) at

abbrev is_for : ℕ → Target → Bool
is_for rule target = target.symbol == rule

first_target : (targets : List Target) → AreAscending targets → (i : ℕ) (target : Target) → slice_get targets i ≡ Some target
    → position_or_len (is_for target.symbol) targets ≡ i
first_target [] ascending i target at = absurd (cc)
first_target (t ∷ targets) ascending zero target at =
    let same : t ≡ target = cc in
    ap (λ b. cond (not b) (1 + position_or_len (is_for target.symbol) targets) 0) ((Decides-eqb t.symbol target.symbol).1 (ap (λ (u : Target). u.symbol) same))
first_target (t ∷ targets) ascending (suc i) target at =
    ap (λ b. cond (not b) (1 + position_or_len (is_for target.symbol) targets) 0) (not_same t.symbol target.symbol (ascending.0 target (contains_there targets i target at)))
    ∙ (let later = first_target targets ascending.1 i target at in omega (arith, later))

pub rule_placed : (targets : List Target) → AreAscending targets → (i : ℕ) (target : Target) → slice_get targets i ≡ Some target
    → place_of_symbol targets target.symbol ≡ Some i
rule_placed targets ascending i target at =
    let first = first_target targets ascending i target at in
    let within = slice_get_within targets i target at in
    ap (λ n. cond (nat_lt n (length targets)) (Some n) None) first ∙ ap (λ b. cond b (Some i) None) (lt-ltb i (length targets) within)

-- the target at a rule's place
pub place_cases : (targets : List Target) (rule : ℕ) (o : Option ℕ) → o ≡ place_of_symbol targets rule → (i : ℕ) → o ≡ Some i → (target : Target) × (slice_get targets i ≡ Some target) × (target.symbol ≡ rule)
place_cases targets rule o is i some =
    let target = get_or targets i (record { symbol = 0; state = 0 }) in
    let (within, passes, first) = position-Some (is_for rule) targets i (record { symbol = 0; state = 0 }) (sym is ∙ some) in
    (target, slice_get-get_or targets i (record { symbol = 0; state = 0 }) within, (Decides-eqb target.symbol rule).0 passes)

pub target_found : (targets : List Target) (symbol state : ℕ) → target_of targets symbol ≡ Some state → (i : ℕ) × (slice_get targets i ≡ Some (record { symbol = symbol; state = state }))
target_found [] symbol state is = absurd (cc)
target_found (t ∷ targets) symbol state is = go (t.symbol == symbol) refl is (target_found targets symbol state)
  where
    go : (b : Bool) → (t.symbol == symbol) ≡ b → cond b (Some t.state) (target_of targets symbol) ≡ Some state
        → (target_of targets symbol ≡ Some state → (i : ℕ) × (slice_get targets i ≡ Some (record { symbol = symbol; state = state })))
        → (i : ℕ) × (slice_get (t ∷ targets) i ≡ Some (record { symbol = symbol; state = state }))
    go true same at onwards =
        let to : t.state ≡ state = cc in
        let for : t.symbol ≡ symbol = (Decides-eqb t.symbol symbol).0 same in
        (0, ap Some (λ j. record { symbol = for j; state = to j }))
    go false apart at onwards = let (i, later) = onwards at in (suc i, later)

pub item_before : (items : List Item) → AreSorted items → (i j : ℕ) (a b : Item) → i < j → slice_get items i ≡ Some a → slice_get items j ≡ Some b → IsBefore a b
item_before [] sorted i j a b less at there = absurd (cc)
item_before (x ∷ items) sorted i zero a b less at there = absurd (omega (arith, less))
item_before (x ∷ items) sorted zero (suc j) a b less at there =
    let same : x ≡ a = cc in
    subst (λ z. IsBefore z b) same (sorted.0 b (contains_there items j b there))
item_before (x ∷ items) sorted (suc i) (suc j) a b less at there = item_before items sorted.1 i j a b (omega (arith, less)) at there

read_falls : (items : List Item) → AreSorted items → (i j : ℕ) (a b : Item) → i ≤ j → slice_get items i ≡ Some a → slice_get items j ≡ Some b → b.read ≤ a.read
read_falls items sorted i j a b most at there = elim (cases_lt i j) [
  | inl less ↦ elim (item_before items sorted i j a b less at there) [ inl lower ↦ omega (arith, lower) | inr same ↦ let reads = same.0 in omega (arith, reads) ]
  | inr past ↦
      let here : slice_get items j ≡ Some a = subst (λ k. slice_get items k ≡ Some a) (omega (arith, most, past)) at in
      let same : a ≡ b = cc in
      let reads = ap (λ (z : Item). z.read) same in
      omega (arith, reads)
]

-- those with symbols read are the first ones
pub reads_parted : (items : List Item) → AreSorted items → IsPartitionedBy (λ (item : Item). ltb 0 item.read) items
reads_parted items sorted i j d most within some =
    let less = read_falls items sorted i j (get_or items i d) (get_or items j d) most (slice_get-get_or items i d (omega (arith, most, within))) (slice_get-get_or items j d within) in
    let more = ltb-true 0 (get_or items j d).read some in
    lt-ltb 0 (get_or items i d).read (omega (arith, less, more))

-- the place of the first target whose symbol isn't below a rule, by a binary search
pub rule_found : (targets : List Target) → AreAscending targets → (rule place : ℕ) (d : Target) → place < length targets → (get_or targets place d).symbol ≡ rule → Some place ≡ place_of_symbol targets rule
rule_found targets ascending rule place d within is =
    sym (subst (λ r. place_of_symbol targets r ≡ Some place) is (rule_placed targets ascending place (get_or targets place d) (slice_get-get_or targets place d within)))

no_place : (targets : List Target) (rule : ℕ) → ((i : ℕ) (target : Target) → slice_get targets i ≡ Some target → target.symbol ≡ rule → ⊥) → None ≡ place_of_symbol targets rule
no_place targets rule none = go (place_of_symbol targets rule) refl
  where
    go : (o : Option ℕ) → o ≡ place_of_symbol targets rule → None ≡ place_of_symbol targets rule
    go None e = e
    go (Some i) e = let (target, at, same) = place_cases targets rule (Some i) e i refl in absurd (none i target at same)

pub rule_missing : (targets : List Target) → AreAscending targets → (rule place : ℕ) → IsPartitionPoint (λ (target : Target). ltb target.symbol rule ≡ true) (λ (target : Target). ltb target.symbol rule ≡ false) targets place
    → (d : Target) → (place < length targets → (get_or targets place d).symbol ≡ rule → ⊥) → None ≡ place_of_symbol targets rule
rule_missing targets ascending rule place point d none = no_place targets rule (symbol_missing targets ascending rule place point d none)

-- the state of a target by its place
pub state_placed : (targets : List Target) → AreAscending targets → (node : ℕ) (o : Option ℕ) (d : Target) → o ≡ place_of_symbol targets node
    → option_map (λ i. (get_or targets i d).state) o ≡ target_of targets node
state_placed targets ascending node (Some i) d is =
    let (target, at, same) = place_cases targets node (Some i) is i refl in
    ap (λ (t : Target). Some t.state) (get_or_from_slice_get targets i target d at)
    ∙ sym (subst (λ m. target_of targets m ≡ Some target.state) same (target_state targets ascending i target at))
state_placed targets ascending node None d is = go (target_of targets node) refl
  where
    go : (o : Option ℕ) → target_of targets node ≡ o → None ≡ target_of targets node
    go None e = sym e
    go (Some state) e =
        let (i, at) = target_found targets node state e in
        let placed = rule_placed targets ascending i (record { symbol = node; state = state }) at in
        absurd (cc)

before_decides : (a b : Item) → Decides (is_before a b) (IsBefore a b)
before_decides a b = Decides-or _ _ (Decides-ltb b.read a.read) (Decides-and _ _ (Decides-eqb a.read b.read) (Decides-ltb a.production b.production))

before_trans : (a b c : Item) → IsBefore a b → IsBefore b c → IsBefore a c
before_trans a b c one two = grind arith

-- a binary search for an item
module _ (items : List Item) (sorted : AreSorted items) (item : Item) where
  pub items_parted : IsPartitionedBy (λ other. is_before other item) items
  items_parted i j d most within later = elim (cases_lt i j) [
    | inl less ↦
        let ordered = item_before items sorted i j (get_or items i d) (get_or items j d) less (slice_get-get_or items i d (omega (arith, less, within))) (slice_get-get_or items j d within) in
        (before_decides (get_or items i d) item).1 (before_trans (get_or items i d) (get_or items j d) item ordered ((before_decides (get_or items j d) item).0 later))
    | inr past ↦ let same : j ≡ i = omega (arith, most, past) in subst (λ k. is_before (get_or items k d) item ≡ true) same later
  ]

  pub item_found : (place : ℕ) (d : Item) → place < length items → get_or items place d ≡ item → Some place ≡ position (is_item item) items
  item_found place d within is =
      let first = item_placed items sorted place item (slice_get-get_or items place d within ∙ ap Some is) in
      sym (ap (λ n. cond (nat_lt n (length items)) (Some n) None) first ∙ ap (λ b. cond b (Some place) None) (lt-ltb place (length items) within))

  pub item_missing : (place : ℕ) → IsPartitionPoint (λ other. is_before other item ≡ true) (λ other. is_before other item ≡ false) items place
      → (d : Item) → (place < length items → get_or items place d ≡ item → ⊥) → None ≡ position (is_item item) items
  item_missing place (low, high) d none = go (position (is_item item) items) refl
    where
      apart : (i : ℕ) → i < length items → get_or items i d ≡ item → ⊥
      apart i within is = elim (cases_lt i place) [
        | inl early ↦
            let before = (before_decides item item).0 (subst (λ other. is_before other item ≡ true) is (low i d (omega arith) early)) in
            before_not_after item item before before
        | inr late ↦ elim (cases_eq place i) [
          | inl same ↦ none (omega (arith, late, within)) (ap (λ k. get_or items k d) same ∙ is)
          | inr unlike ↦
              let there : place < length items = omega (arith, late, within) in
              let before = item_before items sorted place i (get_or items place d) item (omega (arith, late, unlike)) (slice_get-get_or items place d there) (slice_get-get_or items i d within ∙ ap Some is) in
              true≢false (sym ((before_decides (get_or items place d) item).1 before) ∙ high place d (omega arith) there)
        ]
      ]

      go : (o : Option ℕ) → o ≡ position (is_item item) items → None ≡ position (is_item item) items
      go None e = e
      go (Some i) e =
          let (within, is, first) = position-Some (is_item item) items i d (sym e) in
          absurd (apart i within (sym ((same_item item (get_or items i d)).0 is)))

  pub item_there : Contains items item → position (is_item item) items ≡ Some (place_of_item items item)
  item_there has =
      let at = place_holds items sorted item has in
      let place = place_of_item items item in
      ap (λ b. cond b (Some place) None) (lt-ltb place (length items) (slice_get_within items place item at))

  -- whether the item is in the list
  pub any_item : IsTrue (is_some (position (is_item item) items)) ↔ Contains items item
  any_item = (
    (λ some. go (position (is_item item) items) refl some),
    (λ has. ap is_some (item_there has)),
  )
    where
      go : (o : Option ℕ) → position (is_item item) items ≡ o → IsTrue (is_some o) → Contains items item
      go None e some = absurd (true≢false (sym some))
      go (Some i) e some =
          let (within, is, first) = position-Some (is_item item) items i item e in
          subst (Contains items) (sym ((same_item item (get_or items i item)).0 is)) (Contains-get_or items i item within)
