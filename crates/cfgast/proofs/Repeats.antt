-- One more occurrence: what it adds to the repeats, and to the spans of what it declares.
use Rattle.std.proofs.Common.{◌≡◌, ℕ, ◌+◌, ◌<◌, Bool, true, false, cond, not, ◌&&◌, ◌||◌, List, [], ◌∷◌, ◌++◌, map, length, take, get_or, Option, Some, None, Vec, Global, String, string_bytes, string_eq, refl, sym, ap, subst, ◌∙◌}
use Rattle.std.specs.Borrow.{Bor}
use Rattle.std.specs.Cmp.{IsEquivalence}
use Rattle.std.specs.Cmp.Lexicographic.{options_equiv}
use Rattle.std.specs.List.{list_any}
use Rattle.std.specs.Option.{option_eq, option_map}
use Rattle.std.specs.Str.{bytes_eq}
use Rattle.std.proofs.lemmas.Cmp.{and_equiv, nat_list_eq_equiv, on_equiv}
use Rattle.std.proofs.lemmas.List.{map-append, take_more}
use Rattle.lemmas.specs.Lists.{pushed_unless, repeated}
use Rattle.lemmas.proofs.Repeats.{filtered-push, repeated-none, repeated-unless}
use Rattle.indexmap.specs.IndexMap.{insert_entry}
use Rattle.indexmap.specs.IndexSet.{insert_key}
use Rattle.cfgbase.specs.declared.span.Span.{Span}
use Rattle.cfgitems.specs.declared.occurrence.Unique.{Unique as CodeUnique}
use Rattle.cfgitems.specs.declared.occurrence.Occurrence.{Occurrence as CodeOccurrence}
use Rattle.cfgitems.specs.contracts.occurrence.UniqueKindPartialEq.TheImpl.{ghosts as kinds}
use Rattle.cfgitems.specs.contracts.occurrence.UniqueKindEq.TheImpl.Laws.{laws-law}
use Rattle.cfgitems.specs.contracts.occurrence.UniquePartialEq.TheImpl.{ghosts as uniques}
use Rattle.cfgitems.specs.Occurrences.{Unique, Occurrence}
use Rattle.cfgitems.specs.Syntax.{each_once}
use Rattle.cfgast.specs.Duplicates.{Duplicate, declared_by, is_same, spans_of}
use Rattle.cfgitems.specs.SyntaxView.{unique_view, occurrence_view}
use Rattle.cfgast.specs.TreeView.{duplicate_view}
use Rattle.cfgitems.proofs.Once.{key_known, key_inserted}

pub is_same_equivalence : IsEquivalence is_same
is_same_equivalence = and_equiv (on_equiv (λ u. u.kind) laws-law) (on_equiv (λ u. u.token) (options_equiv nat_list_eq_equiv))

abbrev pub key_view : Bor CodeUnique → Unique
key_view key = unique_view key.now

abbrev pub same_key : Bor CodeUnique → Bor CodeUnique → Bool
same_key x y = uniques.eq x.now y.now

pub same_shown : (x y : Bor CodeUnique) → same_key x y ≡ is_same (key_view x) (key_view y)
same_shown x y = ap (λ b. kinds.eq x.now.kind y.now.kind && b) (go x.now.token y.now.token)
  where
    go : (a b : Option (String Global)) → option_eq string_eq a b ≡ option_eq bytes_eq (option_map string_bytes a) (option_map string_bytes b)
    go None None = refl
    go None (Some b) = refl
    go (Some a) None = refl
    go (Some a) (Some b) = refl

pub spans_of-push : (done : List Occurrence) (o : Occurrence) (what : Unique) → spans_of (done ++ o ∷ []) what ≡ cond (is_same o.what what) (spans_of done what ++ o.span ∷ []) (spans_of done what)
spans_of-push done o what = filtered-push (λ (o : Occurrence). o.span) (λ o. is_same o.what what) done o

-- what is declared more than once, without spans yet
abbrev pub bare : Unique → Duplicate
bare what = record { what = what; spans = [] }

-- inserting an entry without spans: an existing key keeps its index, and a new one goes to the end
module _ (k : Bor CodeUnique) (none : Vec Span Global) (empty : none.items ≡ []) where
  insert_bare : (es : List (Bor CodeUnique × Vec Span Global)) (us : List Unique) → map duplicate_view es ≡ map bare us
      → map duplicate_view (insert_entry same_key es k none) ≡ map bare (pushed_unless (list_any (is_same (key_view k)) us) us (key_view k))
  insert_bare [] [] e = λ i. record { what = key_view k; spans = empty i } ∷ []
  insert_bare [] (u ∷ us) e = cc
  insert_bare (x ∷ es) [] e = cc
  insert_bare (x ∷ es) (u ∷ us) e =
      let here : duplicate_view x ≡ bare u = cc in
      let there : map duplicate_view es ≡ map bare us = cc in
      go (same_key k x.0) (is_same (key_view k) u) (same_shown k x.0 ∙ ap (λ (d : Duplicate). is_same (key_view k) d.what) here) here there (insert_bare es us there)
    where
      after : (known : Bool) → bare u ∷ map bare (pushed_unless known us (key_view k)) ≡ map bare (pushed_unless known (u ∷ us) (key_view k))
      after true = refl
      after false = refl

      go : (b c : Bool) → b ≡ c → duplicate_view x ≡ bare u → map duplicate_view es ≡ map bare us
          → map duplicate_view (insert_entry same_key es k none) ≡ map bare (pushed_unless (list_any (is_same (key_view k)) us) us (key_view k))
          → map duplicate_view (cond b ((x.0, none) ∷ es) (x ∷ insert_entry same_key es k none))
          ≡ map bare (pushed_unless (c || list_any (is_same (key_view k)) us) (u ∷ us) (key_view k))
      go true true same here there rest = λ i. record { what = (ap (λ (d : Duplicate). d.what) here) i; spans = empty i } ∷ there i
      go false false same here there rest = (λ i. here i ∷ rest i) ∙ after (list_any (is_same (key_view k)) us)
      go true false same here there rest = cc
      go false true same here there rest = cc

abbrev pub repeats : List Occurrence → List Unique
repeats occurrences = repeated is_same (declared_by occurrences)

-- The keys of what was declared so far, and the entries of what was declared again.
pub record InRepeats (done : List Occurrence) (keys : List (Bor CodeUnique)) (entries : List (Bor CodeUnique × Vec Span Global)) : Type 0 where
  pub declared : map key_view keys ≡ each_once is_same (declared_by done)
  pub found : map duplicate_view entries ≡ map bare (repeats done)

pub repeats_start : (keys : List (Bor CodeUnique)) (entries : List (Bor CodeUnique × Vec Span Global)) → keys ≡ [] → entries ≡ [] → InRepeats [] keys entries
repeats_start keys entries no_keys no_entries = record {
  declared = ap (map key_view) no_keys;
  found = ap (map duplicate_view) no_entries ∙ ap (map bare) (sym (repeated-none is_same));
}

module _ (done : List Occurrence) (keys more : List (Bor CodeUnique)) (entries : List (Bor CodeUnique × Vec Span Global)) (so_far : InRepeats done keys entries)
    (o : Occurrence) (k : Bor CodeUnique) (is : key_view k ≡ o.what) (inserted : more ≡ insert_key same_key keys k)
    (all : List Occurrence) (all_are : all ≡ done ++ o ∷ []) (grown : List (Bor CodeUnique × Vec Span Global)) where
  declared_on : map key_view more ≡ each_once is_same (declared_by (done ++ o ∷ []))
  declared_on = ap (map key_view) inserted ∙ key_inserted same_key is_same is_same_equivalence key_view same_shown k keys (declared_by done) so_far.declared
      ∙ ap (λ what. each_once is_same (declared_by done ++ what ∷ [])) is ∙ ap (each_once is_same) (sym (map-append (λ (o : Occurrence). o.what) done (o ∷ [])))

  known : (b : Bool) → list_any (same_key k) keys ≡ b
      → repeats (done ++ o ∷ []) ≡ cond b (pushed_unless (list_any (is_same o.what) (repeats done)) (repeats done) o.what) (repeats done)
  known b e = ap (repeated is_same) (map-append (λ (o : Occurrence). o.what) done (o ∷ [])) ∙ repeated-unless is_same is_same_equivalence (declared_by done) o.what b
      (ap (λ what. list_any (is_same what) (declared_by done)) (sym is) ∙ sym (key_known same_key is_same is_same_equivalence key_view same_shown k keys (declared_by done) so_far.declared) ∙ e)

  pub repeats_first : list_any (same_key k) keys ≡ false → grown ≡ entries → InRepeats all more grown
  repeats_first new e = subst (λ d. InRepeats d more grown) (sym all_are) (record {
    declared = declared_on;
    found = ap (map duplicate_view) e ∙ so_far.found ∙ ap (map bare) (sym (known false new));
  })

  pub repeats_again : list_any (same_key k) keys ≡ true → (none : Vec Span Global) → none.items ≡ []
      → grown ≡ insert_entry same_key entries k none → InRepeats all more grown
  repeats_again again none empty e = subst (λ d. InRepeats d more grown) (sym all_are) (record {
    declared = declared_on;
    found = ap (map duplicate_view) e ∙ insert_bare k none empty entries (repeats done) so_far.found
        ∙ ap (λ what. map bare (pushed_unless (list_any (is_same what) (repeats done)) (repeats done) what)) is ∙ ap (map bare) (sym (known true again));
  })

-- the occurrences up to one more
pub shown_more : (xs : List CodeOccurrence) (i : ℕ) (x : CodeOccurrence) → i < length xs → x ≡ get_or xs i x → map occurrence_view (take (i + 1) xs) ≡ map occurrence_view (take i xs) ++ occurrence_view x ∷ []
shown_more xs i x within is = ap (map occurrence_view) (take_more xs i x within ∙ ap (λ y. take i xs ++ y ∷ []) (sym is)) ∙ map-append occurrence_view (take i xs) (x ∷ [])

-- whether it was known, given whether it was added
pub from_added : (known added b : Bool) → added ≡ not known → added ≡ b → known ≡ not b
from_added true added b e f = ap not (sym e ∙ f)
from_added false added b e f = ap not (sym e ∙ f)
