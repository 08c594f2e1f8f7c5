-- Concatenated lists, given by the indices at which they end.
use Rattle.std.specs.Prelude.{◌≡◌, ℕ, ◌≤◌, List, [], ◌∷◌, slice_range}

-- the lists that end at these indices, the first of which begins at start
abbrev pub lists_between : {A : Type 0} → List A → ℕ → List ℕ → List (List A)
lists_between items start [] = []
lists_between items start (end ∷ ends) = slice_range items start end ∷ lists_between items end ends

-- the indices ascend from start to last, where all items end
abbrev pub AreEnds : ℕ → ℕ → List ℕ → Type 0
AreEnds start last [] = start ≡ last
AreEnds start last (end ∷ ends) = (start ≤ end) × AreEnds end last ends
