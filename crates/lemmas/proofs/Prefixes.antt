-- Elements with the prefix of the list before each.
use Rattle.std.proofs.Common.{◌≡◌, List, [], ◌∷◌, ◌++◌, All, sym, ap, ◌∙◌, append_assoc, append-nil}
use Rattle.std.proofs.lemmas.List.Elements.{All-nil, All-cons, All-head, All-tail}
use Rattle.lemmas.specs.Lists.{with_prefixes, with_prefixes_from}

pub with_prefixes-push : {A : Type 0} (xs : List A) (x : A) → with_prefixes (xs ++ x ∷ []) ≡ with_prefixes xs ++ (xs, x) ∷ []
with_prefixes-push {A} xs x = go [] xs
  where
    go : (prefix rest : List A) → with_prefixes_from prefix (rest ++ x ∷ []) ≡ with_prefixes_from prefix rest ++ (prefix ++ rest, x) ∷ []
    go prefix [] = ap (λ t. (t, x) ∷ []) (sym (append-nil prefix))
    go prefix (y ∷ rest) =
        ap (λ t. (prefix, y) ∷ t) (go (prefix ++ y ∷ []) rest
        ∙ ap (λ t. with_prefixes_from (prefix ++ y ∷ []) rest ++ (t, x) ∷ []) (append_assoc prefix (y ∷ []) rest))

-- of each element, whatever precedes it
pub All-with_prefixes : {A : Type 0} (P : List A × A → Type 0) (Q : A → Type 0) → ((prefix : List A) (x : A) → Q x → P (prefix, x))
    → (xs : List A) → All Q xs → All P (with_prefixes xs)
All-with_prefixes {A} P Q each xs h = go [] xs h
  where
    go : (prefix ys : List A) → All Q ys → All P (with_prefixes_from prefix ys)
    go prefix [] h = All-nil P
    go prefix (y ∷ ys) h = All-cons P (prefix, y) (with_prefixes_from (prefix ++ y ∷ []) ys) (each prefix y (All-head Q y ys h)) (go (prefix ++ y ∷ []) ys (All-tail Q y ys h))
