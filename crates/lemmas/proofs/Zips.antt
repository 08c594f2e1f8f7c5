-- What holds of the elements of two lists holds of their pairs.
use Rattle.std.proofs.Common.{List, [], ◌∷◌, All}
use Rattle.std.specs.List.{zip}
use Rattle.std.proofs.lemmas.List.Elements.{All-nil, All-cons, All-head, All-tail}

pub All-zip : {A B : Type 0} (P : A → Type 0) (Q : B → Type 0) (xs : List A) (ys : List B) → All P xs → All Q ys → All (λ pair. P pair.0 × Q pair.1) (zip xs ys)
All-zip P Q [] ys all_p all_q = All-nil (λ pair. P pair.0 × Q pair.1)
All-zip P Q (x ∷ xs) [] all_p all_q = All-nil (λ pair. P pair.0 × Q pair.1)
All-zip P Q (x ∷ xs) (y ∷ ys) all_p all_q =
    All-cons (λ pair. P pair.0 × Q pair.1) (x, y) (zip xs ys) (All-head P x xs all_p, All-head Q y ys all_q)
    (All-zip P Q xs ys (All-tail P x xs all_p) (All-tail Q y ys all_q))
