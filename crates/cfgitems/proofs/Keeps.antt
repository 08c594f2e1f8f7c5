-- What holds of all words, or of what each item says, holds of those that remain.
use Rattle.std.proofs.Common.{ℕ, Bool, List, [], ◌∷◌, filter, not, All}
use Rattle.std.specs.List.{flat_map, list_any}
use Rattle.std.specs.Str.{bytes_eq}
use Rattle.std.proofs.lemmas.List.Elements.{All-append, All-filter, All-head, All-map, All-nil, All-tail}
use Rattle.lemmas.proofs.Prefixes.{All-with_prefixes}
use Rattle.lemmas.specs.Lists.{with_prefixes}
use Rattle.cfgitems.specs.Syntax.{firsts}

-- of first occurrences
pub All-firsts : {A : Type 0} (name_of : A → List ℕ) (P : A → Type 0) (xs : List A) → All P xs → All P (firsts name_of xs)
unfolding firsts
All-firsts {A} name_of P xs h = All-map P (λ x. x.1) (filter is_first (with_prefixes xs))
    (All-filter is_first (λ x. P x.1) (with_prefixes xs) (All-with_prefixes (λ x. P x.1) P (λ prefix x p. p) xs h))
  where
    is_first : List A × A → Bool
    is_first x = not (list_any (λ y. bytes_eq (name_of x.1) (name_of y)) x.0)

-- of the lists that each element gives
pub All-flat_map : {A B : Type 0} (P : B → Type 0) (f : A → List B) (xs : List A) → All (λ x. All P (f x)) xs → All P (flat_map f xs)
All-flat_map P f [] all = All-nil P
All-flat_map P f (x ∷ xs) all =
    All-append P (f x) (flat_map f xs) (All-head (λ x. All P (f x)) x xs all) (All-flat_map P f xs (All-tail (λ x. All P (f x)) x xs all))
