-- Two lists are at least as far apart as their lengths are.
use Rattle.std.proofs.Common.{ℕ, zero, suc, ◌+◌, ◌≤◌, Bool, List, [], ◌∷◌, length, arith}
use Rattle.std.proofs.lemmas.Int.{clamps}
use Rattle.strsim.specs.Edits.{cost_at, next_row, rows, levenshtein_row}

-- n edits are at least as many as a row and a column of the table are apart
abbrev AreApart : (ℕ → ℕ) → ℕ → Type 0
AreApart row n = (j : ℕ) → (n ≤ row j + j) × (j ≤ row j + n)

next_apart : (c before : ℕ → ℕ) (n : ℕ) → AreApart before n → (j : ℕ)
    → (suc n ≤ next_row c before (suc n) j + j) × (j ≤ next_row c before (suc n) j + suc n)
unfolding next_row
next_apart c before n apart zero = (omega arith, omega arith)
next_apart c before n apart (suc j) =
    let left = next_apart c before n apart j in
    let above = apart (suc j) in
    let corner = apart j in
    (omega (arith, clamps), omega (arith, clamps))

rows_apart : {T : Type 0} (eq : T → T → Bool) (xs ys : List T) (n : ℕ) (before : ℕ → ℕ) → AreApart before n
    → AreApart (rows eq xs ys n before) (n + length xs)
unfolding rows
rows_apart eq [] ys n before apart j = (omega (arith, apart j), omega (arith, apart j))
rows_apart eq (x ∷ xs) ys n before apart j =
    let next = rows_apart eq xs ys (suc n) (next_row (cost_at eq x ys) before (suc n)) (next_apart (cost_at eq x ys) before n apart) j in
    (omega (arith, next), omega (arith, next))

pub lengths_apart : {T : Type 0} (eq : T → T → Bool) (xs ys : List T)
    → (length xs ≤ levenshtein_row eq xs ys (length ys) + length ys) × (length ys ≤ levenshtein_row eq xs ys (length ys) + length xs)
lengths_apart eq xs ys =
    let apart = rows_apart eq xs ys 0 (λ j. j) (λ j. (omega arith, omega arith)) (length ys) in
    (omega (arith, apart), omega (arith, apart))
