-- The spans of what is declared more than once, gathered occurrence by occurrence.
use Rattle.std.proofs.Common.{◌≡◌, Bool, true, false, cond, List, [], ◌∷◌, ◌++◌, length, arith, map, Some, None, Vec, Global, refl, sym, ap, ◌∙◌}
use Rattle.std.specs.Borrow.{Bor}
use Rattle.std.specs.List.{IsDistinct}
use Rattle.std.specs.Map.{lookup, set_value, keys_of}
use Rattle.cfgbase.specs.declared.span.Span.{Span}
use Rattle.cfgitems.specs.declared.occurrence.Unique.{Unique as CodeUnique}
use Rattle.cfgitems.specs.Occurrences.{Unique, Occurrence}
use Rattle.cfgast.specs.Duplicates.{Duplicate, is_same, spans_of}
use Rattle.cfgast.specs.TreeView.{duplicate_view}
use Rattle.cfgast.proofs.Repeats.{is_same_equivalence, key_view, same_key, same_shown, spans_of-push}
use Rattle.cfgitems.proofs.Written.{changed-absent, changed-set_value}

-- with its spans so far, and one more if the occurrence is of the same
abbrev pub located : List Occurrence → Unique → Duplicate
located done what = record { what = what; spans = spans_of done what }

abbrev pub longer : Occurrence → Duplicate → Duplicate
longer o d = cond (is_same o.what d.what) (record d { spans = d.spans ++ o.span ∷ [] }) d

located-push : (done : List Occurrence) (o : Occurrence) (us : List Unique) → map (longer o) (map (located done) us) ≡ map (located (done ++ o ∷ [])) us
located-push done o [] = refl
located-push done o (u ∷ us) = λ i. (go (is_same o.what u) ∙ ap (λ spans. record { what = u; spans = spans }) (sym (spans_of-push done o u))) i ∷ located-push done o us i
  where
    go : (b : Bool) → cond b (record { what = u; spans = spans_of done u ++ o.span ∷ [] }) (located done u) ≡ record { what = u; spans = cond b (spans_of done u ++ o.span ∷ []) (spans_of done u) }
    go true = refl
    go false = refl

-- if nothing is declared again, it has no spans
pub located_nowhere : {E : Type 0} (shown : E → Duplicate) (es : List E) (f g : Unique → Duplicate) (us : List Unique) → length es ≡ 0 → map shown es ≡ map f us → map shown es ≡ map g us
located_nowhere shown [] f g [] none e = refl
located_nowhere shown [] f g (u ∷ us) none e = absurd (cc)
located_nowhere shown (x ∷ es) f g us none e = absurd (omega arith)

module _ (o : Occurrence) (k : Bor CodeUnique) (is : key_view k ≡ o.what) where
  of_this : (x : Bor CodeUnique) → is_same o.what (key_view x) ≡ same_key k x
  of_this x = ap (λ what. is_same what (key_view x)) (sym is) ∙ sym (same_shown k x)

  own : (x y : Bor CodeUnique) → same_key k x ≡ true → same_key k y ≡ same_key x y
  own x y h = same_shown k y ∙ is_same_equivalence.congr (key_view k) (key_view x) (key_view y) (sym (same_shown k x) ∙ h) ∙ sym (same_shown x y)

  others : (e : Bor CodeUnique × Vec Span Global) → same_key k e.0 ≡ false → longer o (duplicate_view e) ≡ duplicate_view e
  others e other = ap (λ b. cond b (record (duplicate_view e) { spans = e.1.items ++ o.span ∷ [] }) (duplicate_view e)) (of_this e.0 ∙ other)

  module _ (done all : List Occurrence) (all_are : all ≡ done ++ o ∷ []) (us : List Unique)
      (entries grown : List (Bor CodeUnique × Vec Span Global)) (so_far : map duplicate_view entries ≡ map (located done) us) where
    more : map (longer o) (map duplicate_view entries) ≡ map (located all) us
    more = ap (map (longer o)) so_far ∙ located-push done o us ∙ ap (λ d. map (located d) us) (sym all_are)

    pub offset_apart : lookup (same_key k) entries ≡ None → grown ≡ entries → map duplicate_view grown ≡ map (located all) us
    offset_apart none e = ap (map duplicate_view) e ∙ sym (changed-absent same_key (same_key k) own duplicate_view (longer o) others entries none) ∙ more

    pub offset_added : (old new : Vec Span Global) → IsDistinct same_key (keys_of entries) → lookup (same_key k) entries ≡ Some old → new.items ≡ old.items ++ o.span ∷ []
        → grown ≡ set_value (same_key k) entries new → map duplicate_view grown ≡ map (located all) us
    offset_added old new distinct found added e =
        ap (map duplicate_view) e
        ∙ changed-set_value same_key (same_key k) own duplicate_view (longer o) others entries old new distinct found written ∙ more
      where
        written : (x : Bor CodeUnique) → same_key k x ≡ true → duplicate_view (x, new) ≡ longer o (duplicate_view (x, old))
        written x here = ap (λ spans. record { what = key_view x; spans = spans }) added
            ∙ sym (ap (λ b. cond b (record (duplicate_view (x, old)) { spans = old.items ++ o.span ∷ [] }) (duplicate_view (x, old))) (of_this x ∙ here))
