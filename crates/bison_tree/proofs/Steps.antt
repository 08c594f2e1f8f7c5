-- Steps of loops over lists, whose invariant joins what there is so far with what F says of the rest.
use Rattle.std.proofs.Common.{◌≡◌, ℕ, ◌+◌, ◌<◌, List, ◌∷◌, ◌++◌, length, get_or, map, drop, append_assoc, sym, ap, ◌∙◌}
use Rattle.std.proofs.lemmas.List.{at_drop_more}

-- what F says of the rest from an item on
pub opened : {X Y A : Type 0} (view : X → Y) (F : List Y → A) (xs : List X) (i : ℕ) (x : X) → i < length xs → x ≡ get_or xs i x
    → F (map view (drop i xs)) ≡ F (view x ∷ map view (drop (i + 1) xs))
opened view F xs i x less is = at_drop_more (λ xs. F (map view xs)) xs i x less ∙ ap (λ x. F (view x ∷ map view (drop (i + 1) xs))) (sym is)

-- f says of each item what F adds for it
pub stepped : {X E : Type 0} (F : List X → List E) (f : X → List E) → ((x : X) (xs : List X) → F (x ∷ xs) ≡ f x ++ F xs)
    → (xs : List X) (i : ℕ) (x : X) → i < length xs
    → (sofar more whole : List E) → more ≡ sofar ++ f (get_or xs i x) → sofar ++ F (drop i xs) ≡ whole → more ++ F (drop (i + 1) xs) ≡ whole
stepped F f law xs i x less sofar more whole e invariant =
    let rest = drop (i + 1) xs in
    let next : F (drop i xs) ≡ f (get_or xs i x) ++ F rest = at_drop_more F xs i x less ∙ law (get_or xs i x) rest in
    ap (λ s. s ++ F rest) e ∙ append_assoc sofar (f (get_or xs i x)) (F rest) ∙ ap (λ t. sofar ++ t) (sym next) ∙ invariant

-- the same of what items represent
pub stepped_by : {X Y E : Type 0} (view : X → Y) (F : List Y → List E) (f : Y → List E) → ((y : Y) (ys : List Y) → F (y ∷ ys) ≡ f y ++ F ys)
    → (xs : List X) (i : ℕ) (x : X) → i < length xs → x ≡ get_or xs i x
    → (sofar more whole : List E) → more ≡ sofar ++ f (view x) → sofar ++ F (map view (drop i xs)) ≡ whole
    → more ++ F (map view (drop (i + 1) xs)) ≡ whole
stepped_by view F f law xs i x less is sofar more whole e invariant =
    stepped (λ xs. F (map view xs)) (λ x. f (view x)) (λ x xs. law (view x) (map view xs)) xs i x less sofar more whole
    (e ∙ ap (λ x. sofar ++ f (view x)) is) invariant
