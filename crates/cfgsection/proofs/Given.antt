-- What the entries give for a key, entry by entry.
use Rattle.std.proofs.Common.{◌≡◌, ℕ, ◌+◌, Bool, cond, Option, Some, None, List, [], ◌∷◌, ◌++◌, Bor, map, take, option_map, string_bytes, refl, sym, ap, ◌∙◌}
use Rattle.std.specs.Str.{bytes_eq}
use Rattle.std.proofs.lemmas.List.Sums.{fold_push}
use Rattle.cfgsection.specs.declared.section.entry.Entry.{Entry as CodeEntry}
use Rattle.cfgkinds.specs.Values.{ShownHeaderValue}
use Rattle.cfgbase.specs.declared.span.Span.{Span}
use Rattle.cfgsection.specs.SectionGrammar.{Entry}
use Rattle.cfgsection.specs.SectionReads.{entry_view, given, given_by}

-- with one more entry
pub given-push : (done : List Entry) (x : Entry) (key : List ℕ) → given (done ++ x ∷ []) key ≡ cond (bytes_eq x.key key) (Some (given_by x)) (given done key)
unfolding given
given-push done x key = fold_push _ _ done x

-- what was found of the code's entries
abbrev pub gives : Option (Bor CodeEntry) → Option (ShownHeaderValue Span)
gives found = option_map (λ (entry : Bor CodeEntry). given_by (entry_view entry.now)) found

pub none_found : (entries : List CodeEntry) (key : List ℕ) → gives None ≡ given (map entry_view (take 0 entries)) key
unfolding given
none_found entries key = refl

module _ (entries : List CodeEntry) (i : ℕ) (x : CodeEntry) (key : List ℕ)
    (more : map entry_view (take (i + 1) entries) ≡ map entry_view (take i entries) ++ entry_view x ∷ []) where
  -- one more entry, of this key or of another
  pub one_more_found : (old new : Option (Bor CodeEntry)) (same : Bool) → gives old ≡ given (map entry_view (take i entries)) key → bytes_eq (string_bytes x.key) key ≡ same
      → gives new ≡ cond same (Some (given_by (entry_view x))) (gives old) → gives new ≡ given (map entry_view (take (i + 1) entries)) key
  one_more_found old new same so_far is made =
      made ∙ (λ j. cond (sym is j) (Some (given_by (entry_view x))) (so_far j))
      ∙ sym (given-push (map entry_view (take i entries)) (entry_view x) key) ∙ sym (ap (λ es. given es key) more)
