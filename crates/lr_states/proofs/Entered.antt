-- The productions that are entered, and the items of a state by them.
use Rattle.std.proofs.Common.{◌≡◌, ◌↔◌, ◌⊎◌, inl, inr, ℕ, ◌+◌, ◌<◌, ◌≤◌, true, cond, List, [], ◌∷◌, ◌++◌, Contains, Less, get_or, length, map, take, refl, sym, ap, subst, ◌∙◌, true≢false, arith}
use Rattle.std.specs.BTreeMap.{is_at}
use Rattle.std.specs.BTreeSet.{BTreeSet, IsOrdered, contains}
use Rattle.std.specs.Cmp.{nat_cmp_total}
use Rattle.std.specs.List.{list_any}
use Rattle.std.specs.List.Sorted.{IsStrictlySortedBy}
use Rattle.std.specs.Ordering.{nat_cmp}
use Rattle.std.proofs.lemmas.List.{take_all}
use Rattle.std.proofs.lemmas.List.Elements.{All-contains, All-from_recursion, Contains-append_cases, Contains-append_left, Contains-append_right}
use Rattle.std.proofs.lemmas.Map.Keys.{sorted_head, sorted_tail}
use Rattle.std.proofs.lemmas.Map.Lookups.{exact_unsigned}
use Rattle.std.proofs.lemmas.Map.Views.{btree_set_contains_iff}
use Rattle.search.specs.Reachable.{Reachable, Reaches, SearchState, led, seed, unsearched}
use Rattle.search.proofs.Keys.{same_key}
use Rattle.search.proofs.Reaching.{Searching, begun, popped_reachable, search_begins, search_ends, search_goes_on}
use Rattle.cfgrammar.specs.Grammar.{Grammar}
use Rattle.cfgrammar.specs.Openings.{ArePositionsOf, nth_production}
use Rattle.cfgrammar.specs.PIdx.{PIdx}
use Rattle.cfgrammar.proofs.Contained.{contains_first, contains_later, contains_mapped, contains_none, contains_source}
use Rattle.cfgrammar.proofs.Taken.{contains_taken}
use Rattle.lr_states.specs.declared.Item.{Item}
use Rattle.lr_states.specs.Inner.Closure.{AddsTo, Enters, IsClosure, IsEntered, IsIn, IsSeed}
use Rattle.lr_states.specs.Viable.{AreSorted, IsBefore, item_at}
use Rattle.lr_states.proofs.Closed.{enters_as, reachable_as}

pub none_in : (set : BTreeSet ℕ) → set.keys ≡ [] → (n : ℕ) → IsIn set n → ⊥
none_in set none n h = true≢false (sym h ∙ ap (list_any (is_at (nat_cmp n))) none)

-- nothing was found
pub adds_none : (Found : ℕ → Type 0) (set : BTreeSet ℕ) → ((n : ℕ) → Found n → ⊥) → AddsTo Found set set
adds_none Found set none n = ((λ h. inl h), (λ h. elim h [ inl i ↦ i | inr i ↦ absurd (none n i) ]))

-- a used production was inserted
pub adds_one : (Used : ℕ → Type 0) (old new : BTreeSet ℕ) (k : ℕ) → Used k
    → ((q : ℕ) → contains nat_cmp new q ≡ cond (is_at (nat_cmp k) q) true (contains nat_cmp old q)) → AddsTo (λ n. (n ≡ k) × Used n) old new
adds_one Used old new k used updates n = elim (same_key k n) [
  | inl h ↦
      ((λ on. inr (sym h.1, subst Used h.1 used)), (λ either. updates n ∙ ap (λ b. cond b true (contains nat_cmp old n)) h.0))
  | inr h ↦
      let same : contains nat_cmp new n ≡ contains nat_cmp old n = updates n ∙ ap (λ b. cond b true (contains nat_cmp old n)) h.0 in (
        (λ on. inl (sym same ∙ on)),
        (λ either. elim either [ inl i ↦ same ∙ i | inr i ↦ absurd (h.1 (sym i.0)) ]),
      )
]

-- the number is that of one of these productions, which is used
pub record IsOneOf (Used : ℕ → Type 0) (productions : List (PIdx ℕ)) (n : ℕ) : Type 0 where
  pub production : PIdx ℕ
  pub among : Contains productions production
  pub is : n ≡ production.0
  pub used : Used n

module _ (Used : ℕ → Type 0) (productions : List (PIdx ℕ)) where
  pub adds_begin : (set : BTreeSet ℕ) → AddsTo (IsOneOf Used []) set set
  adds_begin set = adds_none (IsOneOf Used []) set (λ n h. contains_none h.production h.among)

  pub adds_more : (i : ℕ) (p : PIdx ℕ) → i < length productions → p ≡ get_or productions i p → (old mid new : BTreeSet ℕ)
      → AddsTo (IsOneOf Used (take i productions)) old mid → AddsTo (λ n. (n ≡ p.0) × Used n) mid new → AddsTo (IsOneOf Used (take (i + 1) productions)) old new
  adds_more i p within at old mid new v w n = (
    (λ h. elim ((w n).0 h) [
      | inl j ↦ elim ((v n).0 j) [
        | inl k ↦ inl k
        | inr k ↦ inr (record { production = k.production; among = (taken k.production).1 (inl k.among); is = k.is; used = k.used })
      ]
      | inr j ↦ inr (record { production = p; among = (taken p).1 (inr refl); is = j.0; used = j.1 })
    ]),
    (λ h. (w n).1 (elim h [
      | inl j ↦ inl ((v n).1 (inl j))
      | inr j ↦ elim ((taken j.production).0 j.among) [
        | inl early ↦ inl ((v n).1 (inr (record { production = j.production; among = early; is = j.is; used = j.used })))
        | inr same ↦ inr (subst (λ (q : PIdx ℕ). n ≡ q.0) same j.is, j.used)
      ]
    ])),
  )
    where
      taken : (q : PIdx ℕ) → Contains (take (i + 1) productions) q ↔ (Contains (take i productions) q ⊎ (q ≡ p))
      taken = contains_taken productions i p within at

  pub adds_all : (g : Grammar) (rule : ℕ) → ((p : ℕ) → Used p → p < length g.productions) → ArePositionsOf g rule (map (λ p. p.0) productions) → (i : ℕ) → length productions ≤ i
      → (old new : BTreeSet ℕ) → AddsTo (IsOneOf Used (take i productions)) old new → AddsTo (λ n. ((nth_production g n).rule ≡ rule) × Used n) old new
  adds_all g rule used are i past old new v n =
      let all : AddsTo (IsOneOf Used productions) old new = subst (λ l. AddsTo (IsOneOf Used l) old new) (take_all i productions past) v in (
        (λ h. elim ((all n).0 h) [
          | inl j ↦ inl j
          | inr j ↦ inr (
            (are.listed n (used n j.used)).0 (subst (Contains (map (λ (p : PIdx ℕ). p.0) productions)) (sym j.is) (contains_mapped (λ (p : PIdx ℕ). p.0) productions j.production j.among)),
            j.used,
          )
        ]),
        (λ h. (all n).1 (elim h [
          | inl j ↦ inl j
          | inr j ↦ inr (let (p, among, is) = contains_source (λ (p : PIdx ℕ). p.0) productions n ((are.listed n (used n j.1)).1 j.0) in
              record { production = p; among = among; is = sym is; used = j.1 })
        ])),
      )

-- the search for what is entered
module _ (g : Grammar) (Used : ℕ → Type 0) (kernel : List Item) where
  -- the used productions of the rule are in the set
  abbrev AreIn : BTreeSet ℕ → ℕ → Type 0
  AreIn set rule = (p : ℕ) → Used p → (nth_production g p).rule ≡ rule → IsIn set p

  -- what is in the set is entered, and each rule that was reached is queued or has its used productions in the set
  pub record Entering (nodes : ℕ) (set : BTreeSet ℕ) (x : SearchState) : Type 0 where
    pub search : Searching nodes (IsSeed g kernel) (Enters g Used) (AreIn set) x
    pub sound : (p : ℕ) → IsIn set p → IsEntered g Used kernel (item_at p 0)

  module _ (nodes : ℕ) where
    pub entering_begins : (set : BTreeSet ℕ) → set.keys ≡ [] → (old new : SearchState) → old ≡ unsearched nodes → Reaches (IsSeed g kernel) old new → Entering nodes set new
    entering_begins set none old new is reaches = record {
      search = search_begins nodes (IsSeed g kernel) (Enters g Used) (AreIn set) new (begun nodes (IsSeed g kernel) old new is reaches);
      sound = λ p h. absurd (none_in set none p h);
    }

    module _ (set : BTreeSet ℕ) (old : SearchState) (entering : Entering nodes set old) where
      pub entering_goes_on : (rule : ℕ) (mid new : SearchState) → mid.reachable ≡ old.reachable → old.waiting ≡ mid.waiting ++ rule ∷ [] → Reaches (Enters g Used rule) mid new
          → (more : BTreeSet ℕ) → AddsTo (λ p. ((nth_production g p).rule ≡ rule) × Used p) set more → Entering nodes more new
      entering_goes_on rule mid new same popped reaches more adds = record {
        search = search_goes_on nodes (IsSeed g kernel) (Enters g Used) (AreIn set) rule old mid entering.search popped new (AreIn more)
            (λ n are p used owner. (adds p).1 (inl (are p used owner))) (λ p used owner. (adds p).1 (inr (owner, used))) same reaches;
        sound = λ p h. elim ((adds p).0 h) [
          | inl i ↦ entering.sound p i
          | inr i ↦ record {
            unread = refl;
            used = i.1;
            reached = subst (Reachable (IsSeed g kernel) (Enters g Used)) (sym i.0)
                (entering.search.sound rule (popped_reachable nodes (IsSeed g kernel) (Enters g Used) (AreIn set) rule old mid entering.search popped));
          }
        ];
      }

      pub entering_ends : old.waiting ≡ [] → (p : ℕ) → IsIn set p ↔ IsEntered g Used kernel (item_at p 0)
      entering_ends none p = (
        entering.sound p,
        (λ e. (search_ends nodes (IsSeed g kernel) (Enters g Used) (AreIn set) old entering.search none e.reached).1 p e.used refl),
      )

-- it doesn't matter how it is said which productions are used
pub entered_as : (g : Grammar) {Used Used' : ℕ → Type 0} {kernel : List Item} {item : Item} → ((p : ℕ) → Used p → Used' p) → IsEntered g Used kernel item → IsEntered g Used' kernel item
entered_as g {item = item} to e = record { unread = e.unread; used = to item.production e.used; reached = reachable_as (λ n h. h) (λ a b. enters_as g to) e.reached }

-- productions in ascending order with nothing read
abbrev unread : List ℕ → List Item
unread productions = map (λ p. item_at p 0) productions

sorted_unread : (productions : List ℕ) → IsStrictlySortedBy nat_cmp productions → AreSorted (unread productions)
sorted_unread [] ascending = tt
sorted_unread (p ∷ ps) ascending = (
  (λ y h.
      let (q, among, is) = contains_source (λ p. item_at p 0) ps y h in
      let less = All-contains (λ q. nat_cmp p q ≡ Less) ps q (All-from_recursion (λ q. nat_cmp p q ≡ Less) ps (sorted_head nat_cmp p ps ascending)) among in
      subst (IsBefore (item_at p 0)) is (inr (refl, below less))),
  sorted_unread ps (sorted_tail nat_cmp p ps ascending),
)
  where
    below : {p q : ℕ} → nat_cmp p q ≡ Less → p < q
    below less = grind (arith)

sorted_append : (xs ys : List Item) → AreSorted xs → AreSorted ys → ((x y : Item) → Contains xs x → Contains ys y → IsBefore x y) → AreSorted (xs ++ ys)
sorted_append [] ys sorted ordered before = ordered
sorted_append (x ∷ xs) ys sorted ordered before = (
  (λ y h. elim (Contains-append_cases xs ys y h) [
    | inl early ↦ sorted.0 y early
    | inr late ↦ before x y (contains_first x xs) late
  ]),
  sorted_append xs ys sorted.1 ordered (λ z y h k. before z y (contains_later x z xs h) k),
)

-- the items with symbols read, and then the productions that are entered
pub closed_entered : (g : Grammar) (Used : ℕ → Type 0) (kernel items : List Item) (entered : BTreeSet ℕ) → IsOrdered nat_cmp entered → items ≡ kernel ++ map (λ p. item_at p 0) entered.keys
    → ((p : ℕ) → IsIn entered p ↔ IsEntered g Used kernel (item_at p 0)) → IsClosure g Used kernel items
closed_entered g Used kernel items entered ascending is known = subst (IsClosure g Used kernel) (sym is) (record {
  all = λ item. (
    (λ h. elim (Contains-append_cases kernel (unread entered.keys) item h) [
      | inl among ↦ inl among
      | inr new ↦ let (p, among, same) = contains_source (λ p. item_at p 0) entered.keys item new in
          inr (subst (IsEntered g Used kernel) same ((known p).0 ((listed p).1 among)))
    ]),
    (λ h. elim h [
      | inl among ↦ Contains-append_left kernel (unread entered.keys) item among
      | inr e ↦
          let same : item_at item.production 0 ≡ item = let unread = e.unread in λ j. item_at item.production (sym unread j) in
          Contains-append_right kernel (unread entered.keys) item (subst (Contains (unread entered.keys)) same (contains_mapped (λ p. item_at p 0) entered.keys item.production
          ((listed item.production).0 ((known item.production).1 (subst (IsEntered g Used kernel) (sym same) e)))))
    ]),
  );
  sorted = λ sorted some. sorted_append kernel (unread entered.keys) sorted (sorted_unread entered.keys ascending) (λ x y h k.
      let (p, among, same) = contains_source (λ p. item_at p 0) entered.keys y k in
      subst (IsBefore x) same (inl (some x h)));
})
  where
    listed : (p : ℕ) → IsIn entered p ↔ Contains entered.keys p
    listed p = btree_set_contains_iff nat_cmp_total exact_unsigned entered p

no_seeds : {Seed : ℕ → Type 0} {Leads : ℕ → ℕ → Type 0} → ((n : ℕ) → Seed n → ⊥) → {n : ℕ} → Reachable Seed Leads n → ⊥
no_seeds none (seed {a = n} h) = none n h
no_seeds none (led h k) = no_seeds none h

-- without such rules nothing is entered
pub closed_kernel : (g : Grammar) (Used : ℕ → Type 0) (kernel items : List Item) → items ≡ kernel → ((rule : ℕ) → IsSeed g kernel rule → ⊥) → IsClosure g Used kernel items
closed_kernel g Used kernel items is none = record {
  all = λ item. (
    (λ h. inl (subst (λ l. Contains l item) is h)),
    (λ h. elim h [ inl among ↦ subst (λ l. Contains l item) (sym is) among | inr e ↦ absurd (no_seeds none e.reached) ]),
  );
  sorted = λ sorted some. subst AreSorted (sym is) sorted;
}
