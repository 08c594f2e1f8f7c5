-- One more entry: the spans of its key, and the keys that are given more than once.
use Rattle.std.proofs.Common.{◌≡◌, ℕ, Bool, true, false, cond, List, [], ◌∷◌, ◌++◌, map, filter, length, eqb, refl, sym, ap, subst, ◌∙◌, append-nil, Vec, Global, Bor, Option, Some, None, Result, Ok, Err, unwrap_or, take, get_or, ◌+◌, ◌<◌}
use Rattle.std.specs.BTreeMap.{BTreeMap, get_by, is_at}
use Rattle.std.specs.Cmp.Lexicographic.{slice_cmp}
use Rattle.std.specs.Map.{lookup, update}
use Rattle.std.specs.Option.{option_map_or}
use Rattle.std.specs.Ordering.{nat_cmp}
use Rattle.std.specs.Prelude.{IfOk}
use Rattle.std.proofs.lemmas.Slice.Eq.{bytes_eq-Decides}
use Rattle.std.specs.Str.{bytes_eq}
use Rattle.std.proofs.lemmas.List.{map-append, take_more}
use Rattle.lemmas.specs.Lists.{repeated}
use Rattle.lemmas.proofs.Repeats.{count-map, filtered-push, repeated-none, repeated-push}
use Rattle.cfgbase.specs.declared.span.Span.{Span}
use Rattle.cfgsection.specs.SectionGrammar.{Entry}
use Rattle.cfgsection.specs.SectionErrors.{duplicate_error, duplicate_errors, keys_of, spans_of}
use Rattle.cfgerrors.specs.declared.header.HeaderError.{HeaderError}
use Rattle.cfgerrors.specs.declared.header.HeaderErrorKind.TheVariants as kinds
use Rattle.cfgerrors.specs.HeaderErrors.{DuplicateEntry, error_view}
use Rattle.cfgsection.specs.SectionReads.{entry_view, errors_view}
use Rattle.cfgsection.specs.declared.section.entry.Entry.{Entry as CodeEntry}
use Rattle.cfgsection.specs.Inner.Steps.{spans_at, duplicate_at}

abbrev pub repeats : List Entry → List (List ℕ)
repeats entries = repeated bytes_eq (keys_of entries)

pub spans_of-push : (done : List Entry) (x : Entry) (key : List ℕ)
    → spans_of (done ++ x ∷ []) key ≡ cond (bytes_eq x.key key) (spans_of done key ++ x.key_span ∷ []) (spans_of done key)
spans_of-push done x key = filtered-push (λ (e : Entry). e.key_span) (λ e. bytes_eq e.key key) done x

pub repeats-push : (done : List Entry) (x : Entry) → repeats (done ++ x ∷ []) ≡ cond (eqb (length (spans_of done x.key)) 1) (repeats done ++ x.key ∷ []) (repeats done)
repeats-push done x =
    ap (repeated bytes_eq) (map-append (λ (e : Entry). e.key) done (x ∷ [])) ∙ repeated-push bytes_eq (keys_of done) x.key
    ∙ ap (λ n. cond (eqb n 1) (repeats done ++ x.key ∷ []) (repeats done)) (count-map bytes_eq (λ (e : Entry). e.key) (λ (e : Entry). e.key_span) x.key done)

-- the spans and the repeated keys of the entries so far
pub record InOffsets (done : List Entry) (offsets : BTreeMap (Bor (List ℕ)) (Vec Span Global)) (again : List (Bor (List ℕ))) : Type 0 where
  pub spans : (key : List ℕ) → spans_at offsets key ≡ spans_of done key
  pub keys : map (λ (key : Bor (List ℕ)). key.now) again ≡ repeats done

pub offsets_start : (offsets : BTreeMap (Bor (List ℕ)) (Vec Span Global)) (again : List (Bor (List ℕ))) → offsets.entries ≡ [] → again ≡ [] → InOffsets [] offsets again
offsets_start offsets again none nobody = record {
  spans = λ key. ap (λ es. option_map_or (λ (spans : Vec Span Global). spans.items) (lookup (is_at (λ (k : Bor (List ℕ)). slice_cmp nat_cmp key k.now)) es) []) none;
  keys = ap (map (λ (key : Bor (List ℕ)). key.now)) nobody ∙ sym (repeated-none bytes_eq);
}

module _ (done : List Entry) (offsets : BTreeMap (Bor (List ℕ)) (Vec Span Global)) (again : List (Bor (List ℕ))) (so_far : InOffsets done offsets again)
    (x : Entry) (key : Bor (List ℕ)) (is : key.now ≡ x.key) (grown : BTreeMap (Bor (List ℕ)) (Vec Span Global))
    (noted : (other : List ℕ) → spans_at grown other ≡ cond (bytes_eq key.now other) (spans_at offsets other ++ x.key_span ∷ []) (spans_at offsets other))
    (all : List Entry) (all_are : all ≡ done ++ x ∷ []) where
  offsets_on : (other : List ℕ) → spans_at grown other ≡ spans_of (done ++ x ∷ []) other
  offsets_on other = noted other
      ∙ (λ i. cond (bytes_eq (is i) other) (so_far.spans other i ++ x.key_span ∷ []) (so_far.spans other i))
      ∙ sym (spans_of-push done x other)

  counted : eqb (length (spans_at offsets key.now)) 1 ≡ eqb (length (spans_of done x.key)) 1
  counted = ap (λ ps. eqb (length ps) 1) (so_far.spans key.now) ∙ ap (λ k. eqb (length (spans_of done k)) 1) is

  pub offsets_again : eqb (length (spans_at offsets key.now)) 1 ≡ true → (more : List (Bor (List ℕ))) → more ≡ again ++ key ∷ [] → InOffsets all grown more
  offsets_again second more e = subst (λ d. InOffsets d grown more) (sym all_are) (record {
    spans = offsets_on;
    keys = ap (map (λ (key : Bor (List ℕ)). key.now)) e ∙ map-append (λ (key : Bor (List ℕ)). key.now) again (key ∷ [])
        ∙ (λ i. so_far.keys i ++ is i ∷ [])
        ∙ sym (repeats-push done x ∙ ap (λ b. cond b (repeats done ++ x.key ∷ []) (repeats done)) (sym counted ∙ second));
  })

  pub offsets_once : eqb (length (spans_at offsets key.now)) 1 ≡ false → (more : List (Bor (List ℕ))) → more ≡ again → InOffsets all grown more
  offsets_once other more e = subst (λ d. InOffsets d grown more) (sym all_are) (record {
    spans = offsets_on;
    keys = ap (map (λ (key : Bor (List ℕ)). key.now)) e ∙ so_far.keys
        ∙ sym (repeats-push done x ∙ ap (λ b. cond b (repeats done ++ x.key ∷ []) (repeats done)) (sym counted ∙ other));
  })

-- the entries up to one more
pub entries_more : (xs : List CodeEntry) (i : ℕ) (x : CodeEntry) → i < length xs → x ≡ get_or xs i x → map entry_view (take (i + 1) xs) ≡ map entry_view (take i xs) ++ entry_view x ∷ []
entries_more xs i x within is = ap (map entry_view) (take_more xs i x within ∙ ap (λ y. take i xs ++ y ∷ []) (sym is)) ∙ map-append entry_view (take i xs) (x ∷ [])

abbrev pub found_at : BTreeMap (Bor (List ℕ)) (Vec Span Global) → List ℕ → Option (Vec Span Global)
found_at offsets key = get_by (λ k. slice_cmp nat_cmp key k.now) offsets

-- the spans that were taken out of a map, or none
pub items_or : (o : Option (Vec Span Global)) (none : Vec Span Global) → none.items ≡ [] → (unwrap_or o none).items ≡ option_map_or (λ (spans : Vec Span Global). spans.items) o []
items_or None none e = e
items_or (Some spans) none e = refl

-- taking a key's spans out and putting them back with one more
module _ (old mid new : BTreeMap (Bor (List ℕ)) (Vec Span Global)) (key : List ℕ) (span : Span) (spans : Vec Span Global)
    (taken : (other : List ℕ) → found_at mid other ≡ update bytes_eq (found_at old) key None other)
    (put : (other : List ℕ) → found_at new other ≡ update bytes_eq (found_at mid) key (Some spans) other)
    (more : spans.items ≡ spans_at old key ++ span ∷ []) where
  pub put_back : (other : List ℕ) → spans_at new other ≡ cond (bytes_eq key other) (spans_at old other ++ span ∷ []) (spans_at old other)
  put_back other =
      ap (λ o. option_map_or (λ (spans : Vec Span Global). spans.items) o []) (put other ∙ ap (cond (bytes_eq key other) (Some spans)) (taken other))
      ∙ go (bytes_eq key other) refl
    where
      go : (b : Bool) → bytes_eq key other ≡ b → option_map_or (λ (spans : Vec Span Global). spans.items) (cond b (Some spans) (cond b None (found_at old other))) []
          ≡ cond b (spans_at old other ++ span ∷ []) (spans_at old other)
      go true e = more ∙ ap (λ k. spans_at old k ++ span ∷ []) ((bytes_eq-Decides key other).0 e)
      go false e = refl

-- one more error for a repeated key
pub one_more_error : (offsets : BTreeMap (Bor (List ℕ)) (Vec Span Global)) (keys : List (Bor (List ℕ))) (key : Bor (List ℕ)) (old : List (HeaderError Span)) (locations : Vec Span Global)
    (new : List (HeaderError Span)) → errors_view old ≡ map (λ (key : Bor (List ℕ)). duplicate_at offsets key.now) keys
    → new ≡ old ++ record { kind = kinds.DuplicateEntry; locations = locations } ∷ [] → locations.items ≡ spans_at offsets key.now
    → errors_view new ≡ map (λ (key : Bor (List ℕ)). duplicate_at offsets key.now) (keys ++ key ∷ [])
one_more_error offsets keys key old locations new so_far e at =
    ap errors_view e ∙ map-append error_view old (record { kind = kinds.DuplicateEntry; locations = locations } ∷ [])
    ∙ (λ i. so_far i ++ record { kind = DuplicateEntry; locations = at i } ∷ [])
    ∙ sym (map-append (λ (key : Bor (List ℕ)). duplicate_at offsets key.now) keys (key ∷ []))

-- the errors for all repeated keys
module _ (entries : List Entry) (offsets : BTreeMap (Bor (List ℕ)) (Vec Span Global)) (keys : List (Bor (List ℕ)))
    (spans : (key : List ℕ) → spans_at offsets key ≡ spans_of entries key) (again : map (λ (key : Bor (List ℕ)). key.now) keys ≡ repeats entries) where
  all_errors : map (λ (key : Bor (List ℕ)). duplicate_at offsets key.now) keys ≡ duplicate_errors entries
  unfolding duplicate_errors
  all_errors = go keys ∙ ap (map (duplicate_error entries)) again
    where
      go : (keys : List (Bor (List ℕ))) → map (λ (key : Bor (List ℕ)). duplicate_at offsets key.now) keys ≡ map (duplicate_error entries) (map (λ (key : Bor (List ℕ)). key.now) keys)
      go [] = refl
      go (key ∷ keys) = λ i. record { kind = DuplicateEntry; locations = spans key.now i } ∷ go keys i

  pub all_errors_of : {E : Type 0} (result : Result (Vec (HeaderError Span) Global) E)
      → IfOk result (λ errors. errors_view errors.items ≡ map (λ (key : Bor (List ℕ)). duplicate_at offsets key.now) keys)
      → IfOk result (λ errors. errors_view errors.items ≡ duplicate_errors entries)
  all_errors_of (Ok errors) e = e ∙ all_errors
  all_errors_of (Err e) h = tt
