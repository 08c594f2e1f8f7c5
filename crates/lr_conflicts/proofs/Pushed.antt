-- Clashes that are pushed one after another.
use Rattle.std.proofs.Common.{◌≡◌, ◌↔◌, ◌⊎◌, inl, inr, ℕ, ◌+◌, ◌<◌, Bool, true, false, eqb, List, [], ◌∷◌, ◌++◌, Option, None, Some, Contains, IsTrue, get_or, length, map, not, take, refl, sym, ap, subst, ◌∙◌, true≢false}
use Rattle.std.specs.Option.{option_eq}
use Rattle.std.proofs.lemmas.Bool.{cases_Bool}
use Rattle.std.proofs.lemmas.Bool.Decides.{Decides-eqb}
use Rattle.std.proofs.lemmas.List.{map_push}
use Rattle.std.proofs.lemmas.List.Elements.{Contains-append_left, Contains-push, Contains-push_cases}
use Rattle.lemmas.proofs.Adding.{adds_as, adds_then}
use Rattle.cfgrammar.specs.Numbered.{Numbered}
use Rattle.cfgrammar.proofs.Taken.{contains_taken}
use Rattle.lr_states.specs.Automaton.{Automaton}
use Rattle.lr_states.specs.declared.Item.{Item}
use Rattle.lr_conflicts.specs.Clashes.{IsIn, ShiftsBy, reduce, shift}
use Rattle.lr_conflicts.specs.Conflicts.{items_of, read_item}
use Rattle.lr_conflicts.specs.Tables.{IsShiftedBy}
use Rattle.lr_conflicts.specs.Inner.Pushed.{AddsClashes, IsAgainst, IsInOne, IsReductionIn, IsShiftIn, clash_of}
use Rattle.lr_conflicts.proofs.InConflicts.{shifted_by, shifts_by}
use Rattle.lr_conflicts.specs.declared.Conflict.{Conflict}
use Rattle.lr_conflicts.specs.declared.clashes.Clash.{Clash}
use Rattle.lr_conflicts.specs.declared.clashes.Entry.{Entry}

-- the clashes of some entries
abbrev Has : List Entry → Clash → Type 0
Has entries = Contains (map clash_of entries)

one_more : (entries : List Entry) (e : Entry) (new : List Entry) → new ≡ entries ++ e ∷ [] → AddsClashes (λ clash. clash_of e ≡ clash) entries new
one_more entries e new is clash = subst (λ l. Contains l clash ↔ (Has entries clash ⊎ (clash_of e ≡ clash))) (sym (ap (map clash_of) is ∙ map_push clash_of entries e)) (
  Contains-push_cases (map clash_of entries) (clash_of e) clash,
  (λ h. elim h [
    | inl early ↦ Contains-append_left (map clash_of entries) (clash_of e ∷ []) clash early
    | inr same ↦ subst (Contains (map clash_of entries ++ clash_of e ∷ [])) same (Contains-push (map clash_of entries) (clash_of e))
  ]),
)

not_not : (b : Bool) → not (not b) ≡ b
not_not true = refl
not_not false = refl

module _ (shifts : Bool) (other : Item) (productions : List ℕ) (t : ℕ) where
  pub against_more : (i p : ℕ) → i < length productions → p ≡ get_or productions i p → (old entries new : List Entry) → AddsClashes (IsAgainst shifts other (take i productions) t) old entries
      → new ≡ entries ++ record { reduces = not shifts; production = p; other = other.production; read = other.read; token = t } ∷ []
      → AddsClashes (IsAgainst shifts other (take (i + 1) productions) t) old new
  against_more i p within at old entries new so_far is =
      adds_as (IsAgainst shifts other (take (i + 1) productions) t) to from (adds_then so_far (one_more entries entry new is))
    where
      entry : Entry
      entry = record { reduces = not shifts; production = p; other = other.production; read = other.read; token = t }

      to : (clash : Clash) → IsAgainst shifts other (take i productions) t clash ⊎ (clash_of entry ≡ clash) → Has old clash ⊎ IsAgainst shifts other (take (i + 1) productions) t clash
      to clash h = elim h [
        | inl a ↦ inr (record { kind = a.kind; among = (contains_taken productions i p within at clash.production).1 (inl a.among); other = a.other; token = a.token })
        | inr same ↦ inr (subst (IsAgainst shifts other (take (i + 1) productions) t) same
            (record { kind = not_not shifts; among = (contains_taken productions i p within at p).1 (inr refl); other = refl; token = refl }))
      ]

      from : (clash : Clash) → IsAgainst shifts other (take (i + 1) productions) t clash → Has old clash ⊎ (IsAgainst shifts other (take i productions) t clash ⊎ (clash_of entry ≡ clash))
      from clash a = elim ((contains_taken productions i p within at clash.production).0 a.among) [
        | inl early ↦ inr (inl (record { kind = a.kind; among = early; other = a.other; token = a.token }))
        | inr same ↦
            let kind = not_not shifts ∙ sym a.kind in
            let production = sym same in
            let item = sym a.other in
            let token = sym a.token in
            inr (inr (λ j. record { shifts = kind j; production = production j; other = item j; token = token j }))
      ]

-- a production of the conflict against one of these items by which the token can be shifted
pub record IsShiftOf (g : Numbered) (conflict : Conflict) (items : List Item) (clash : Clash) : Type 0 where
  pub item : Item
  pub among : Contains items item
  pub by : IsShiftedBy g item conflict.token
  pub against : IsAgainst true item conflict.productions.items conflict.token clash

-- whether a token that may be there is this one
pub is_token : (o : Option ℕ) (t : ℕ) → (option_eq eqb o (Some t) ≡ true) ↔ (o ≡ Some t)
is_token None t = ((λ h. absurd (true≢false (sym h))), (λ h. let no : None ≡ Some t = h in cc))
is_token (Some s) t = ((λ h. ap Some ((Decides-eqb s t).0 h)), (λ h. let same : Some s ≡ Some t = h in (Decides-eqb s t).1 (cc)))

module _ (g : Numbered) (conflict : Conflict) (items : List Item) where
  module _ (i : ℕ) (item : Item) (within : i < length items) (at : item ≡ get_or items i item) (old entries : List Entry)
      (so_far : AddsClashes (IsShiftOf g conflict (take i items)) old entries) where
    taken : (other : Item) → Contains (take (i + 1) items) other ↔ (Contains (take i items) other ⊎ (other ≡ item))
    taken = contains_taken items i item within at

    pub shift_skip : (IsShiftedBy g item conflict.token → ⊥) → AddsClashes (IsShiftOf g conflict (take (i + 1) items)) old entries
    shift_skip none = adds_as (IsShiftOf g conflict (take (i + 1) items))
        (λ clash s. inr (record { item = s.item; among = (taken s.item).1 (inl s.among); by = s.by; against = s.against }))
        (λ clash s. elim ((taken s.item).0 s.among) [
          | inl early ↦ inr (record { item = s.item; among = early; by = s.by; against = s.against })
          | inr same ↦ absurd (none (subst (λ x. IsShiftedBy g x conflict.token) same s.by))
        ]) so_far

    pub shift_more : IsShiftedBy g item conflict.token → (new : List Entry) → AddsClashes (IsAgainst true item conflict.productions.items conflict.token) entries new
        → AddsClashes (IsShiftOf g conflict (take (i + 1) items)) old new
    shift_more by new more = adds_as (IsShiftOf g conflict (take (i + 1) items))
        (λ clash h. elim h [
          | inl s ↦ inr (record { item = s.item; among = (taken s.item).1 (inl s.among); by = s.by; against = s.against })
          | inr a ↦ inr (record { item = item; among = (taken item).1 (inr refl); by = by; against = a })
        ])
        (λ clash s. elim ((taken s.item).0 s.among) [
          | inl early ↦ inr (inl (record { item = s.item; among = early; by = s.by; against = s.against }))
          | inr same ↦ inr (inr (subst (λ x. IsAgainst true x conflict.productions.items conflict.token clash) same s.against))
        ]) (adds_then so_far more)

module _ (g : Numbered) (conflict : Conflict) where
  pub reductions_all : (first : ℕ) (rest : List ℕ) (other : Item) → conflict.productions.items ≡ first ∷ rest → other ≡ read_item g first → (old new : List Entry)
      → AddsClashes (IsAgainst false other rest conflict.token) old new → AddsClashes (IsReductionIn g conflict) old new
  reductions_all first rest other split is old new adds = adds_as (IsReductionIn g conflict)
      (λ clash a. inr (record { first = first; rest = rest; split = split; against = subst (λ i. IsAgainst false i rest conflict.token clash) is a }))
      (λ clash r.
      let same = sym split ∙ r.split in
      let head : r.first ≡ first = cc in
      let tail : r.rest ≡ rest = cc in
      inr (subst (λ l. IsAgainst false other l conflict.token clash) tail
      (subst (λ i. IsAgainst false i r.rest conflict.token clash) (ap (read_item g) head ∙ sym is) r.against)))
      adds

module _ (g : Numbered) (x : Automaton) (conflict : Conflict) where
  pub shifts_all : IsTrue conflict.shifts → (old new : List Entry) → AddsClashes (IsShiftOf g conflict (items_of x conflict.state)) old new
      → AddsClashes (IsShiftIn g x conflict) old new
  shifts_all shifts old new adds = adds_as (IsShiftIn g x conflict)
      (λ clash s. inr (record { shift = shifts; item = s.item; by = shifts_by g x conflict s.item s.among s.by; against = s.against }))
      (λ clash s. let both = shifted_by g x conflict s.item s.by in inr (record { item = s.item; among = both.0; by = both.1; against = s.against })) adds

  in_both : (clash : Clash) → IsIn g x conflict clash → IsShiftIn g x conflict clash ⊎ IsReductionIn g conflict clash
  in_both clash (shift shifts token kind among by) =
      inl (record { shift = shifts; item = clash.other; by = by; against = record { kind = kind; among = among; other = refl; token = token } })
  in_both clash (reduce first rest is token none among other) = inr (record {
    first = first;
    rest = rest;
    split = is;
    against = record { kind = elim (cases_Bool clash.shifts) [ inl on ↦ absurd (none on) | inr off ↦ off ]; among = among; other = other; token = token };
  })

  both_in : (clash : Clash) → IsShiftIn g x conflict clash ⊎ IsReductionIn g conflict clash → IsIn g x conflict clash
  both_in clash h = elim h [
    | inl s ↦ shift s.shift s.against.token s.against.kind s.against.among (subst (ShiftsBy g x conflict) (sym s.against.other) s.by)
    | inr r ↦ reduce r.first r.rest r.split r.against.token (λ on. true≢false (sym on ∙ r.against.kind)) r.against.among r.against.other
  ]

module _ (g : Numbered) (x : Automaton) (conflicts : List Conflict) where
  pub clashes_more : (i : ℕ) (conflict : Conflict) → i < length conflicts → conflict ≡ get_or conflicts i conflict → (old entries mid new : List Entry)
      → AddsClashes (IsInOne g x (take i conflicts)) old entries → AddsClashes (IsShiftIn g x conflict) entries mid → AddsClashes (IsReductionIn g conflict) mid new
      → AddsClashes (IsInOne g x (take (i + 1) conflicts)) old new
  clashes_more i conflict within at old entries mid new so_far shifts reductions =
      adds_as (IsInOne g x (take (i + 1) conflicts)) to from (adds_then (adds_then so_far shifts) reductions)
    where
      taken : (other : Conflict) → Contains (take (i + 1) conflicts) other ↔ (Contains (take i conflicts) other ⊎ (other ≡ conflict))
      taken = contains_taken conflicts i conflict within at

      to : (clash : Clash) → (IsInOne g x (take i conflicts) clash ⊎ IsShiftIn g x conflict clash) ⊎ IsReductionIn g conflict clash
          → Has old clash ⊎ IsInOne g x (take (i + 1) conflicts) clash
      to clash h = inr (elim h [
        | inl first ↦ elim first [
          | inl early ↦ record { conflict = early.conflict; among = (taken early.conflict).1 (inl early.among); is = early.is }
          | inr s ↦ record { conflict = conflict; among = (taken conflict).1 (inr refl); is = both_in g x conflict clash (inl s) }
        ]
        | inr r ↦ record { conflict = conflict; among = (taken conflict).1 (inr refl); is = both_in g x conflict clash (inr r) }
      ])

      from : (clash : Clash) → IsInOne g x (take (i + 1) conflicts) clash
          → Has old clash ⊎ ((IsInOne g x (take i conflicts) clash ⊎ IsShiftIn g x conflict clash) ⊎ IsReductionIn g conflict clash)
      from clash one = elim ((taken one.conflict).0 one.among) [
        | inl early ↦ inr (inl (inl (record { conflict = one.conflict; among = early; is = one.is })))
        | inr same ↦ elim (in_both g x conflict clash (subst (λ c. IsIn g x c clash) same one.is)) [ inl s ↦ inr (inl (inr s)) | inr r ↦ inr (inr r) ]
      ]
