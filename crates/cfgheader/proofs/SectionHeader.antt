-- One more entry in a header.
use Rattle.std.proofs.Common.{◌≡◌, Bool, true, false, cond, Some, None, List, [], ◌∷◌, ◌++◌, option_map, unwrap_or, Option, refl, sym, ap, ◌∙◌, String, string_bytes, Global}
use Rattle.std.specs.declared.cmp.Ordering.{Ordering}
use Rattle.std.specs.declared.cmp.Ordering.TheVariants.{Less, Equal, Greater}
use Rattle.std.specs.Ordering.{is_eq, match_ordering}
use Rattle.std.specs.Cmp.{IsTotalOrder, eq_by_cmp_equiv}
use Rattle.std.specs.Map.{lookup}
use Rattle.std.specs.BTreeMap.{insert_entry, is_at}
use Rattle.std.specs.Str.{bytes_eq}
use Rattle.std.specs.String.{string_cmp, string_cmp_total}
use Rattle.std.proofs.lemmas.Map.Text.{is_eq-slice_cmp}
use Rattle.lemmas.proofs.Entries.{lookup_inserted, lookup_congr}
use Rattle.cfgbase.specs.declared.span.Span.{Span}
use Rattle.cfgmarks.specs.declared.markmap.behavior.MergeBehavior.TheVariants.{MutuallyExclusive}
use Rattle.cfgmarks.specs.declared.markmap.marked.Marked.{Marked}
use Rattle.cfgmarks.specs.declared.markmap.MarkMap.{MarkMap}
use Rattle.cfgmarks.specs.Marks.{Marks, marks, marks_at, unmarked, entry_at, changed, set_value}
use Rattle.cfgkinds.specs.declared.value.HeaderValue.{HeaderValue}
use Rattle.cfgkinds.specs.Values.{ShownHeaderValue, header_value_view}
use Rattle.cfgsection.specs.declared.section.entry.Entry.{Entry as CodeEntry}
use Rattle.cfgsection.specs.SectionGrammar.{Entry}
use Rattle.cfgsection.specs.SectionReads.{entry_view, given}
use Rattle.cfgsection.proofs.Given.{given-push}
use Rattle.cfgheader.specs.Headers.{IsHeaderOf, marked_view, bare_value}

equal_from : (r : Ordering) → is_eq r ≡ true → r ≡ Equal
equal_from Less e = cc
equal_from Equal e = refl
equal_from Greater e = cc

module _ {K X : Type 0} (cmp : K → K → Ordering) (total : IsTotalOrder cmp) where
  -- an insertion changes nothing at other keys
  lookup_inserted_other : (es : List (K × X)) (k q : K) (w : X) → is_at (cmp k) q ≡ false → lookup (is_at (cmp q)) (insert_entry cmp es k w) ≡ lookup (is_at (cmp q)) es
  lookup_inserted_other [] k q w apart = rw ((eq_by_cmp_equiv total).symm q k, apart)
  lookup_inserted_other (e ∷ es) k q w apart =
      let back : is_at (cmp q) k ≡ false = (eq_by_cmp_equiv total).symm q k ∙ apart in
      elim (cmp k e.0) as (λ r. cmp k e.0 ≡ r → lookup (is_at (cmp q)) (match_ordering r ((k, w) ∷ e ∷ es) ((e.0, w) ∷ es) (e ∷ insert_entry cmp es k w)) ≡ lookup (is_at (cmp q)) (e ∷ es)) [
        | Less ↦ λ is. rw back
        | Equal ↦ λ is.
            let there : is_at (cmp q) e.0 ≡ false = (eq_by_cmp_equiv total).symm q e.0 ∙ sym ((eq_by_cmp_equiv total).congr k e.0 q (ap is_eq is)) ∙ apart in
            rw there
        | Greater ↦ λ is. ap (cond (is_at (cmp q) e.0) (Some e.1)) (lookup_inserted_other es k q w apart)
      ] refl

  pub lookup_by_inserted : (es : List (K × X)) (k q : K) (w : X) → lookup (is_at (cmp q)) (insert_entry cmp es k w) ≡ cond (is_at (cmp k) q) (Some w) (lookup (is_at (cmp q)) es)
  lookup_by_inserted es k q w = go (is_at (cmp k) q) refl
    where
      go : (b : Bool) → is_at (cmp k) q ≡ b → lookup (is_at (cmp q)) (insert_entry cmp es k w) ≡ cond b (Some w) (lookup (is_at (cmp q)) es)
      go true e = sym (lookup_congr cmp total (insert_entry cmp es k w) k q (equal_from (cmp k q) e)) ∙ lookup_inserted cmp total es k w
      go false e = lookup_inserted_other es k q w e

-- a value that is set at a key without marks shows as just the value
set_shows : (o : Option (Marked (HeaderValue Span))) (g : Option (ShownHeaderValue Span)) → option_map marked_view o ≡ option_map bare_value g
    → (value : HeaderValue Span) → marked_view (set_value value (unwrap_or o unmarked)) ≡ bare_value (header_value_view value)
set_shows None g e value = refl
set_shows (Some m) None e value = cc
set_shows (Some m) (Some shown) e value =
    let same : marked_view m ≡ bare_value shown = cc in
    ap (λ (x : Marked (ShownHeaderValue Span)). record x { value = Some (header_value_view value) }) same

pub header_start : (header : MarkMap (String Global) (HeaderValue Span)) → marks header ≡ record { entries = []; behavior = MutuallyExclusive } → IsHeaderOf [] header
unfolding given
header_start header e = record {
  holds = λ key. ap (λ (m : Marks (String Global) (HeaderValue Span)). option_map marked_view (entry_at string_cmp m key)) e;
  behavior = ap (λ (m : Marks (String Global) (HeaderValue Span)). m.behavior) e;
}

pub header_on : (done : List Entry) (header next : MarkMap (String Global) (HeaderValue Span)) (x : CodeEntry) → IsHeaderOf done header
    → marks next ≡ changed string_cmp (marks header) x.key (set_value (record { 0 = x.key_span; 1 = x.value })) → IsHeaderOf (done ++ entry_view x ∷ []) next
header_on done header next x so_far e = record {
  holds = λ key.
      ap (λ (m : Marks (String Global) (HeaderValue Span)). option_map marked_view (entry_at string_cmp m key)) e
      ∙ ap (option_map marked_view) (lookup_by_inserted string_cmp string_cmp_total (marks header).entries x.key key _)
      ∙ go key (is_at (string_cmp x.key) key) (sym (is_eq-slice_cmp (string_bytes x.key) (string_bytes key)))
      ∙ sym (ap (option_map bare_value) (given-push done (entry_view x) (string_bytes key)));
  behavior = ap (λ (m : Marks (String Global) (HeaderValue Span)). m.behavior) e ∙ so_far.behavior;
}
  where
    value : HeaderValue Span
    value = record { 0 = x.key_span; 1 = x.value }

    go : (key : String Global) (b : Bool) → bytes_eq (string_bytes x.key) (string_bytes key) ≡ b
        → option_map marked_view (cond b (Some (set_value value (marks_at string_cmp (marks header) x.key))) (entry_at string_cmp (marks header) key))
        ≡ option_map bare_value (cond (bytes_eq (string_bytes x.key) (string_bytes key)) (Some (header_value_view value)) (given done (string_bytes key)))
    go key true is = ap Some (set_shows (entry_at string_cmp (marks header) x.key) (given done (string_bytes x.key)) (so_far.holds x.key) value)
        ∙ ap (λ b. option_map bare_value (cond b (Some (header_value_view value)) (given done (string_bytes key)))) (sym is)
    go key false is = so_far.holds key
        ∙ ap (λ b. option_map bare_value (cond b (Some (header_value_view value)) (given done (string_bytes key)))) (sym is)
