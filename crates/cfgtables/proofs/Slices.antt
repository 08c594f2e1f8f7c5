-- Slices of symbols, and their numbers.
use Rattle.std.proofs.Common.{◌≡◌, ℕ, ◌+◌, ◌-◌, ◌<◌, List, ◌∷◌, map, length, get_or, take, drop, subst, sym, ap, ◌∙◌, All}
use Rattle.std.proofs.lemmas.List.{length-map, get_or-map, take_rest, drop-map, drop_more}
use Rattle.std.proofs.lemmas.List.Elements.{All-get_or}

module _ {X Y : Type 0} (f : X → Y) (xs : List X) (i : ℕ) (x : X) (is : x ≡ get_or xs i x) (lt : i < length xs) where
  pub mapped_within : i < length (map f xs)
  mapped_within = subst (λ n. i < n) (sym (length-map xs f)) lt

  pub mapped_at : f x ≡ get_or (map f xs) i (f x)
  mapped_at = ap f is ∙ sym (get_or-map f xs i x (f x) lt)

  pub mapped_all : (P : Y → Type 0) → All P (map f xs) → P (f x)
  mapped_all P all = subst P (sym mapped_at) (All-get_or P (map f xs) i (f x) mapped_within all)

  -- the slice after the index
  pub mapped_rest : map f (take (length xs - (i + 1)) (drop (i + 1) xs)) ≡ drop (i + 1) (map f xs)
  mapped_rest = ap (map f) (take_rest xs (i + 1)) ∙ sym (drop-map f (i + 1) xs)

  pub mapped_drop : drop i (map f xs) ≡ f x ∷ map f (take (length xs - (i + 1)) (drop (i + 1) xs))
  mapped_drop = drop_more (map f xs) i (f x) mapped_within ∙ ap (λ y. y ∷ drop (i + 1) (map f xs)) (sym mapped_at) ∙ ap (λ l. f x ∷ l) (sym mapped_rest)
