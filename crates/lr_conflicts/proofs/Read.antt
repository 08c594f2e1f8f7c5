-- Which productions are read in some items, and which tokens can be shifted by them.
use Rattle.std.proofs.Common.{◌≡◌, ◌↔◌, ◌⊎◌, inl, inr, ℕ, ◌+◌, ◌<◌, Bool, true, false, eqb, List, [], ◌∷◌, ◌++◌, Some, Contains, IsTrue, get_or, length, map, take, refl, sym, ap, subst, ◌∙◌, slice_set}
use Rattle.std.specs.List.{dedup}
use Rattle.std.specs.List.Sorted.{IsPermutation, IsStrictlyIncreasing}
use Rattle.std.proofs.lemmas.List.Elements.{Contains-append_left, Contains-push, Contains-push_cases}
use Rattle.std.proofs.lemmas.List.Kept.{Contains-dedup_nat, Contains-from_dedup}
use Rattle.std.proofs.lemmas.List.Sorted.{Contains-permutation, IsPermutation-sym}
use Rattle.search.proofs.Bits.{bit_put}
use Rattle.cfgrammar.specs.Associativity.{Associativity}
use Rattle.cfgrammar.specs.Numbered.{Numbered, core}
use Rattle.cfgrammar.proofs.Contained.{contains_mapped}
use Rattle.cfgrammar.proofs.Taken.{contains_taken}
use Rattle.lr_states.specs.declared.Item.{Item}
use Rattle.lr_states.specs.Viable.{IsUsed}
use Rattle.lr_states.specs.Lookaheads.{AreLookaheads, LookaheadTables}
use Rattle.lr_conflicts.specs.Conflicts.{CanShift, accepts, items_of, next, read_item}
use Rattle.lr_conflicts.specs.Inner.Choices.{AreReductions, IsReducible, IsReductionAt}
use Rattle.lr_conflicts.specs.Tables.{IsShiftedBy}
use Rattle.lr_conflicts.specs.Tables as tables
use Rattle.lr_conflicts.specs.declared.parser.Reduction.{Reduction}

module _ (g : Numbered) where
  -- the production is read in one of these items, and isn't that of the start rule
  abbrev pub IsReadIn : List Item → ℕ → Type 0
  IsReadIn items p = (p ≡ g.start_production → ⊥) × Contains items (read_item g p)

  module _ (items : List Item) (i : ℕ) (item : Item) (within : i < length items) (at : item ≡ get_or items i item) (productions : List ℕ)
      (so_far : (p : ℕ) → Contains productions p ↔ IsReadIn (take i items) p) where
    taken : (p : ℕ) → Contains (take (i + 1) items) (read_item g p) ↔ (Contains (take i items) (read_item g p) ⊎ (read_item g p ≡ item))
    taken p = contains_taken items i item within at (read_item g p)

    number : (p : ℕ) → read_item g p ≡ item → p ≡ item.production
    number p same = ap (λ (x : Item). x.production) same

    pub read_skip : (IsReducible g item → ⊥) → (p : ℕ) → Contains productions p ↔ IsReadIn (take (i + 1) items) p
    read_skip none p = (
      (λ h. let r = (so_far p).0 h in (r.0, (taken p).1 (inl r.1))),
      (λ r. (so_far p).1 (
        r.0,
        elim ((taken p).0 r.1) [
          | inl early ↦ early
          | inr same ↦ absurd (none (record { ours = λ start. r.0 (number p same ∙ start); read = sym same ∙ ap (read_item g) (number p same) }))
        ],
      )),
    )

    pub read_more : IsReducible g item → (new : List ℕ) → new ≡ productions ++ item.production ∷ [] → (p : ℕ) → Contains new p ↔ IsReadIn (take (i + 1) items) p
    read_more can new is p = subst (λ l. Contains l p ↔ IsReadIn (take (i + 1) items) p) (sym is) (
      (λ h. elim (Contains-push_cases productions item.production p h) [
        | inl early ↦ let r = (so_far p).0 early in (r.0, (taken p).1 (inl r.1))
        | inr same ↦ ((λ start. can.ours (same ∙ start)), (taken p).1 (inr (ap (read_item g) (sym same) ∙ sym can.read)))
      ]),
      (λ r. elim ((taken p).0 r.1) [
        | inl early ↦ Contains-append_left productions (item.production ∷ []) p ((so_far p).1 (r.0, early))
        | inr same ↦ subst (Contains (productions ++ item.production ∷ [])) (sym (number p same)) (Contains-push productions item.production)
      ]),
    )

-- sorted, and each once
pub once_is : (before sorted once : List ℕ) → IsPermutation before sorted → once ≡ dedup eqb sorted → (p : ℕ) → Contains once p ↔ Contains before p
once_is before sorted once moved is p = (
  (λ h. Contains-permutation sorted before p (IsPermutation-sym before sorted moved) (Contains-from_dedup eqb sorted p (subst (λ l. Contains l p) is h))),
  (λ h. subst (λ l. Contains l p) (sym is) (Contains-dedup_nat sorted p (Contains-permutation before sorted p moved h))),
)

-- what can be reduced, by the productions that are read
pub reductions_are : (g : Numbered) (levels : List Associativity) (x : LookaheadTables) → AreLookaheads (core g) (IsUsed (core g)) x → (q : ℕ) → q < length x.automaton.states
    → (productions : List ℕ) → ((p : ℕ) → Contains productions p ↔ IsReadIn g (items_of x.automaton q) p) → IsStrictlyIncreasing productions
    → (rs : List Reduction) → map (λ (r : Reduction). r.production) rs ≡ productions → ((r : Reduction) → Contains rs r → IsReductionAt g x q r)
    → AreReductions g levels (items_of x.automaton q) rs
reductions_are g levels x looks q within productions read ascending rs same at = record {
  each = λ r among. record {
    comes = λ t inside.
        let listed : Contains productions r.production = subst (λ l. Contains l r.production) same (contains_mapped (λ (r : Reduction). r.production) rs r among) in
        let is = (read r.production).0 listed in
        let known = looks q within (read_item g r.production) is.1 t inside in (
          (λ on. record { ours = is.0; read = is.1; comes = known.0 (subst (λ bits. IsTrue (get_or bits t false)) (at r among).tokens on) }),
          (λ can. subst (λ bits. IsTrue (get_or bits t false)) (sym (at r among).tokens) (known.1 can.comes)),
        );
    precedence = (at r among).precedence;
  };
  all = λ t p can. subst (λ l. Contains l p) (sym same) ((read p).1 (can.ours, can.read));
  ascending = subst IsStrictlyIncreasing (sym same) ascending;
}

module _ (g : Numbered) where
  -- the token can be shifted by one of these items
  abbrev pub IsShiftedIn : List Item → ℕ → Type 0
  IsShiftedIn items t = (item : Item) × Contains items item × IsShiftedBy g item t

  module _ (items : List Item) (i : ℕ) (item : Item) (within : i < length items) (at : item ≡ get_or items i item) (bits : List Bool)
      (so_far : (t : ℕ) → IsTrue (get_or bits t false) ↔ IsShiftedIn (take i items) t) where
    further : (t : ℕ) → IsShiftedIn (take i items) t → IsShiftedIn (take (i + 1) items) t
    further t (other, among, by) = (other, (contains_taken items i item within at other).1 (inl among), by)

    nearer : (t : ℕ) → IsShiftedIn (take (i + 1) items) t → IsShiftedIn (take i items) t ⊎ IsShiftedBy g item t
    nearer t (other, among, by) = elim ((contains_taken items i item within at other).0 among) [
      | inl early ↦ inl (other, early, by)
      | inr same ↦ inr (subst (λ x. IsShiftedBy g x t) same by)
    ]

    pub shifts_skip : ((t : ℕ) → IsShiftedBy g item t → ⊥) → (t : ℕ) → IsTrue (get_or bits t false) ↔ IsShiftedIn (take (i + 1) items) t
    shifts_skip none t = (
      (λ on. further t ((so_far t).0 on)),
      (λ h. elim (nearer t h) [ inl early ↦ (so_far t).1 early | inr by ↦ absurd (none t by) ]),
    )

    pub shifts_more : (token : ℕ) → token < length bits → ((t : ℕ) → (Some token ≡ Some t) ↔ IsShiftedBy g item t) → (new : List Bool) → new ≡ slice_set bits token true
        → (t : ℕ) → IsTrue (get_or new t false) ↔ IsShiftedIn (take (i + 1) items) t
    shifts_more token inside is new set t = subst (λ l. IsTrue (get_or l t false) ↔ IsShiftedIn (take (i + 1) items) t) (sym set) (
      (λ on. elim ((bit_put bits token inside t).0 on) [
        | inl early ↦ further t ((so_far t).0 early)
        | inr same ↦ (item, (contains_taken items i item within at item).1 (inr refl), (is t).0 (ap Some (sym same)))
      ]),
      (λ h. (bit_put bits token inside t).1 (elim (nearer t h) [
        | inl early ↦ inl ((so_far t).1 early)
        | inr by ↦ let same = (is t).1 by in inr (cc)
      ])),
    )

  pub shifted_in : (levels : List Associativity) (items : List Item) (t : ℕ) → IsShiftedIn items t ↔ CanShift g levels items t
  shifted_in levels items t = (to, from)
    where
      to : IsShiftedIn items t → CanShift g levels items t
      to (item, among, tables.next at) = next item among at
      to (item, among, tables.accepts read end) = accepts (subst (Contains items) read among) end

      from : CanShift g levels items t → IsShiftedIn items t
      from (next item among at) = (item, among, tables.next at)
      from (accepts among end) = (read_item g g.start_production, among, tables.accepts refl end)
