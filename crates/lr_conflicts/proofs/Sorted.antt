-- Entries that are sorted, each once, and what clashes by them.
use Rattle.std.proofs.Common.{◌≡◌, ◌↔◌, inl, inr, Bool, true, List, [], ◌∷◌, Contains, map, sym, subst, ◌∙◌, arith}
use Rattle.std.specs.Cmp.{Equal-is, IsEquivalence, IsTotalOrder, bool_cmp_total, eq_by_cmp_equiv}
use Rattle.std.specs.List.{dedup}
use Rattle.std.specs.List.Sorted.{IsPermutation, IsSorted, IsStrictlySortedBy}
use Rattle.std.specs.Ordering.{bool_cmp, eq_by_cmp, nat_cmp, ordering_then}
use Rattle.std.specs.declared.cmp.Ordering.{Ordering}
use Rattle.std.specs.declared.cmp.Ordering.TheVariants.{Less, Equal}
use Rattle.std.proofs.lemmas.Bool.Decides.{nat_tests}
use Rattle.std.proofs.lemmas.Cmp.{nat_cmp_total, on_total, then_total}
use Rattle.std.proofs.lemmas.List.Elements.{All-contains, All-from_recursion}
use Rattle.std.proofs.lemmas.List.Kept.{Contains-dedup, Contains-from_dedup, IsStrictlySortedBy-dedup}
use Rattle.std.proofs.lemmas.List.Sorted.{Contains-permutation, IsPermutation-sym}
use Rattle.cfgrammar.specs.Numbered.{Numbered}
use Rattle.cfgrammar.proofs.Contained.{contains_mapped, contains_none, contains_source}
use Rattle.lr_states.specs.Automaton.{Automaton}
use Rattle.lr_conflicts.specs.Clashes.{AreClashes, AreSorted, IsBefore}
use Rattle.lr_conflicts.specs.Inner.Pushed.{AddsClashes, IsInOne, clash_of}
use Rattle.lr_conflicts.specs.declared.Conflict.{Conflict}
use Rattle.lr_conflicts.specs.declared.clashes.Clash.{Clash}
use Rattle.lr_conflicts.specs.declared.clashes.Entry.{Entry}

-- by the fields in their order
abbrev pub entry_cmp : Entry → Entry → Ordering
entry_cmp a b = ordering_then (bool_cmp a.reduces b.reduces) (ordering_then (nat_cmp a.production b.production)
    (ordering_then (nat_cmp a.other b.other) (ordering_then (nat_cmp a.read b.read) (nat_cmp a.token b.token))))

entry_total : IsTotalOrder entry_cmp
entry_total = then_total (on_total (λ (e : Entry). e.reduces) bool_cmp_total) (then_total (on_total (λ (e : Entry). e.production) nat_cmp_total)
    (then_total (on_total (λ (e : Entry). e.other) nat_cmp_total) (then_total (on_total (λ (e : Entry). e.read) nat_cmp_total) (on_total (λ (e : Entry). e.token) nat_cmp_total))))

before : (a b : Entry) → entry_cmp a b ≡ Less → IsBefore (clash_of a) (clash_of b)
before a b h = grind (arith, nat_tests)

same : (a b : Entry) → entry_cmp a b ≡ Equal → a ≡ b
same a b h =
    let kind : a.reduces ≡ b.reduces = grind (arith, nat_tests) in
    let production : a.production ≡ b.production = grind (arith, nat_tests) in
    let other : a.other ≡ b.other = grind (arith, nat_tests) in
    let read : a.read ≡ b.read = grind (arith, nat_tests) in
    let token : a.token ≡ b.token = grind (arith, nat_tests) in
    λ m. record { reduces = kind m; production = production m; other = other m; read = read m; token = token m }

sorted_clashes : (entries : List Entry) → IsStrictlySortedBy entry_cmp entries → AreSorted (map clash_of entries)
unfolding IsStrictlySortedBy
sorted_clashes [] h = tt
sorted_clashes (e ∷ entries) h = (
  (λ clash among.
      let (f, inside, is) = contains_source clash_of entries clash among in
      subst (IsBefore (clash_of e)) is (before e f (All-contains (λ f. entry_cmp e f ≡ Less) entries f (All-from_recursion (λ f. entry_cmp e f ≡ Less) entries h.0) inside))),
  sorted_clashes entries h.1,
)

module _ (eq : Entry → Entry → Bool) (ties : (a b : Entry) → eq a b ≡ eq_by_cmp entry_cmp a b) where
  equal : IsEquivalence eq
  equal = let e = eq_by_cmp_equiv entry_total in record {
    refl = λ a. ties a a ∙ e.refl a;
    symm = λ a b. ties a b ∙ e.symm a b ∙ sym (ties b a);
    congr = λ a b c h. ties a c ∙ e.congr a b c (sym (ties a b) ∙ h) ∙ sym (ties b c);
  }

  exact : (a b : Entry) → eq a b ≡ true → a ≡ b
  exact a b h = same a b ((Equal-is (entry_cmp a b)).0 (sym (ties a b) ∙ h))

  module _ (entries sorted once : List Entry) (moved : IsPermutation entries sorted) (order : IsSorted entry_cmp sorted) (is : once ≡ dedup eq sorted) where
    once_has : (clash : Clash) → Contains (map clash_of once) clash ↔ Contains (map clash_of entries) clash
    once_has clash = (
      (λ h.
          let (e, among, shows) = contains_source clash_of once clash h in
          let before = Contains-permutation sorted entries e (IsPermutation-sym entries sorted moved) (Contains-from_dedup eq sorted e (subst (λ l. Contains l e) is among)) in
          subst (Contains (map clash_of entries)) shows (contains_mapped clash_of entries e before)),
      (λ h.
          let (e, among, shows) = contains_source clash_of entries clash h in
          let after = Contains-dedup equal exact sorted e (Contains-permutation entries sorted e moved among) in
          subst (Contains (map clash_of once)) shows (contains_mapped clash_of once e (subst (λ l. Contains l e) (sym is) after))),
    )

    pub clashes_are : (g : Numbered) (x : Automaton) (conflicts : List Conflict) → AddsClashes (IsInOne g x conflicts) [] entries → (clashes : List Clash) → clashes ≡ map clash_of once
        → AreClashes g x conflicts clashes
    clashes_are g x conflicts adds clashes shown = subst (AreClashes g x conflicts) (sym shown) (record {
      each = λ clash h. elim ((adds clash).0 ((once_has clash).0 h)) [
        | inl none ↦ absurd (contains_none clash none)
        | inr one ↦ (one.conflict, one.among, one.is)
      ];
      all = λ conflict clash among in_it. (once_has clash).1 ((adds clash).1 (inr (record { conflict = conflict; among = among; is = in_it })));
      sorted = sorted_clashes once (subst (IsStrictlySortedBy entry_cmp) (sym is) (IsStrictlySortedBy-dedup entry_total ties sorted order));
    })
