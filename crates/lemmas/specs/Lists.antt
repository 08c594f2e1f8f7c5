-- Definitions on lists that std doesn't have.
use Rattle.std.specs.Prelude.{ℕ, Bool, List, [], ◌∷◌, ◌++◌, ◌+◌, ◌==◌, Option, Some, None, if◌then◌else◌, filter, length, map}

-- each element with the prefix of the list before it
abbrev pub with_prefixes_from : {A : Type 0} → List A → List A → List (List A × A)
with_prefixes_from prefix [] = []
with_prefixes_from prefix (x ∷ xs) = (prefix, x) ∷ with_prefixes_from (prefix ++ x ∷ []) xs

abbrev pub with_prefixes : {A : Type 0} → List A → List (List A × A)
with_prefixes xs = with_prefixes_from [] xs

-- the first repeat of an element: exactly one earlier element is the same
abbrev pub is_first_repeat : {A : Type 0} → (A → A → Bool) → List A × A → Bool
is_first_repeat same (prefix, x) = length (filter (λ y. same y x) prefix) == 1

-- the elements that occur more than once, in the order of their first repeats
unfoldable pub repeated : {A : Type 0} → (A → A → Bool) → List A → List A
repeated same xs = map (λ x. x.1) (filter (is_first_repeat same) (with_prefixes xs))

-- the indices of the elements that pass the test
abbrev pub positions_from : {A : Type 0} → ℕ → (A → Bool) → List A → List ℕ
positions_from i test [] = []
positions_from i test (x ∷ xs) = if test x then i ∷ positions_from (i + 1) test xs else positions_from (i + 1) test xs

abbrev pub positions : {A : Type 0} → (A → Bool) → List A → List ℕ
positions test xs = positions_from 0 test xs

-- with one more element at the end, if there is one
abbrev pub pushed : {A : Type 0} → List A → Option A → List A
pushed xs None = xs
pushed xs (Some x) = xs ++ x ∷ []

-- with one more element at the end, if it isn't known yet
abbrev pub pushed_unless : {A : Type 0} → Bool → List A → A → List A
pushed_unless known xs x = if known then xs else xs ++ x ∷ []
