-- The first character boundary from an offset on.
use Rattle.std.proofs.Common.{◌≡◌, ℕ, ◌+◌, ◌-◌, ◌<◌, ◌≤◌, true, not, List, length, drop, min, get_or, get_or-drop, length-take, length-drop, ⊎_elim, subst, sym, arith}
use Rattle.std.proofs.lemmas.Bool.{cases_lt, false_from_ne_true}
use Rattle.std.proofs.lemmas.List.Sums.{passes_at_first, position_or_len_is, prefix_len-le-length}
use Rattle.std.specs.List.{position_or_len}
use Rattle.std.specs.Str.{IsCharBoundary}
use Rattle.cfglines.specs.Characters.{begins_character}
use Rattle.cfgrender.specs.Render.{ceil_char_boundary}
use Rattle.cfgrender.proofs.Cuts.{boundary_begins, boundary_from_begins}

pub min_boundary : (bytes : List ℕ) (m n : ℕ) → IsCharBoundary bytes m → IsCharBoundary bytes n → IsCharBoundary bytes (min m n)
min_boundary bytes m n first second = ⊎_elim
    (λ less. subst (IsCharBoundary bytes) (omega arith) first)
    (λ more. subst (IsCharBoundary bytes) (omega arith) second)
    (cases_lt m n)

pub ceil_boundary : (bytes : List ℕ) (b : ℕ) → IsCharBoundary bytes (ceil_char_boundary bytes b)
ceil_boundary bytes b =
    let first = position_or_len begins_character (drop b bytes) in
    let bound : first ≤ length (drop b bytes) = prefix_len-le-length (λ byte. not (begins_character byte)) (drop b bytes) in
    let prefix = length-take b bytes in
    let back = length-drop b bytes in
    boundary_from_begins bytes (ceil_char_boundary bytes b) (omega arith) (λ less.
    let begins : begins_character (get_or bytes (b + first) 0) ≡ true = subst (λ byte. begins_character byte ≡ true)
    (get_or-drop b bytes first 0) (passes_at_first begins_character (drop b bytes) 0 (omega arith)) in
    subst (λ i. begins_character (get_or bytes i 0) ≡ true) (omega arith) begins)

-- what the code's call says of its result
pub ceil_is : (bytes : List ℕ) (b stop : ℕ) → (b ≤ length bytes → b ≤ stop) → IsCharBoundary bytes stop
    → ((i : ℕ) → b ≤ i → i < stop → IsCharBoundary bytes i → ⊥) → (length bytes < b → stop ≡ length bytes) → stop ≡ ceil_char_boundary bytes b
ceil_is bytes b stop after boundary nearest beyond =
    let bound = prefix_len-le-length (λ byte. not (begins_character byte)) (drop b bytes) in
    let prefix = length-take b bytes in
    let back = length-drop b bytes in
    ⊎_elim
    (λ past. let end = beyond past in omega arith)
    (λ within.
    let low = after within in
    let first : position_or_len begins_character (drop b bytes) ≡ stop - b =
    position_or_len_is begins_character (drop b bytes) (stop - b) 0 (omega (arith, boundary.0))
    (λ k below. false_from_ne_true _ (λ begins. nearest (b + k) (omega arith) (omega arith)
    (boundary_from_begins bytes (b + k) (omega (arith, boundary.0)) (λ _. subst (λ byte. begins_character byte ≡ true) (get_or-drop b bytes k 0) begins))))
    (λ less. subst (λ byte. begins_character byte ≡ true) (sym (get_or-drop b bytes (stop - b) 0))
    (subst (λ i. begins_character (get_or bytes i 0) ≡ true) (omega arith) (boundary_begins bytes stop boundary (omega arith)))) in
    omega arith)
    (cases_lt (length bytes) b)
