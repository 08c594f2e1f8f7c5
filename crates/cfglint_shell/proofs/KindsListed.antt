-- The kinds that the summary lists, one by one.
use Rattle.std.proofs.Common.{◌≡◌, ℕ, ◌+◌, ◌==◌, ◌<◌, ◌≤◌, Bool, true, false, if◌then◌else◌, List, ◌∷◌, ◌++◌, length, drop, get_or, refl, sym, ap, subst, ◌∙◌, append-nil, append_assoc}
use Rattle.std.proofs.lemmas.Bool.{eqb-true}
use Rattle.std.proofs.lemmas.List.{at_drop_all, at_drop_more}
use Rattle.cfglint_shell.specs.declared.file_kind.FileKind.{FileKind}
use Rattle.cfglint_shell.specs.declared.kind_counts.KindCounts.{KindCounts}
use Rattle.cfglint_shell.specs.KindCounts.{count_of}
use Rattle.cfglint_shell.specs.Tally.{listed, read_as, separator}

if_none : {A : Type 0} (n : ℕ) (none some : A) → n ≡ 0 → (if n == 0 then none else some) ≡ none
if_none n none some is = subst (λ m. (if m == 0 then none else some) ≡ none) (sym is) refl

if_some : {A : Type 0} (n : ℕ) (none some : A) → (n ≡ 0 → ⊥) → (if n == 0 then none else some) ≡ some
if_some n none some other = go (n == 0) refl
  where
    go : (is_none : Bool) → (n == 0) ≡ is_none → (if is_none then none else some) ≡ some
    go true is = absurd (other (eqb-true n 0 is))
    go false is = refl

-- after this text come the kinds from this index on
module _ (counts : KindCounts) (kinds : List FileKind) (i : ℕ) (is_first : Bool) (text whole : List ℕ)
    (rest : text ++ listed is_first counts (drop i kinds) ≡ whole) where
  module _ (d : FileKind) (within : i < length kinds) where
    at_kind : text ++ listed is_first counts (get_or kinds i d ∷ drop (i + 1) kinds) ≡ whole
    at_kind = sym (at_drop_more (λ kinds. text ++ listed is_first counts kinds) kinds i d within) ∙ rest

    module _ (n : ℕ) (counted : n ≡ count_of counts (get_or kinds i d)) where
      -- no file was read as this one
      pub past_kind : n ≡ 0 → text ++ listed is_first counts (drop (i + 1) kinds) ≡ whole
      unfolding listed
      past_kind none = ap (λ more. text ++ more) (sym (if_none (count_of counts (get_or kinds i d)) _ _ (sym counted ∙ none))) ∙ at_kind

      -- some were
      pub after_kind : (n ≡ 0 → ⊥) → (text ++ (separator is_first ++ read_as n (get_or kinds i d))) ++ listed false counts (drop (i + 1) kinds) ≡ whole
      unfolding listed
      after_kind some =
          let this = read_as n (get_or kinds i d) in
          let more = listed false counts (drop (i + 1) kinds) in
          append_assoc text (separator is_first ++ this) more ∙ ap (λ all. text ++ all) (append_assoc (separator is_first) this more)
          ∙ (ap (λ n. text ++ (separator is_first ++ (read_as n (get_or kinds i d) ++ more))) counted
          ∙ (ap (λ more. text ++ more) (sym (if_some (count_of counts (get_or kinds i d)) _ _ (λ none. some (counted ∙ none)))) ∙ at_kind))

  -- none is left
  pub past_kinds : length kinds ≤ i → text ≡ whole
  unfolding listed
  past_kinds past = sym (append-nil text) ∙ (sym (at_drop_all (λ kinds. text ++ listed is_first counts kinds) kinds i past) ∙ rest)
