-- A text has as many bytes that begin a character as characters.
use Rattle.std.proofs.Common.{◌≡◌, ℕ, ◌+◌, ◌/◌, ◌<◌, ◌≤◌, true, false, cond, ltb, ltb-true, List, [], ◌∷◌, length, count_by, chars, sym, ap, ◌∙◌, refl, arith}
use Rattle.std.proofs.Math.Utf8.{encode, encodes, next}
use Rattle.std.proofs.lemmas.Bool.{cond_both, le-leb, le-ltb, lt-ltb, lt-leb, or_left, or_right, or_from}
use Rattle.std.proofs.lemmas.List.Sums.{sum_by-append}
use Rattle.std.proofs.lemmas.Str.{encodes-chars}
use Rattle.std.specs.Str.{IsUtf8}
use Rattle.cfglines.specs.Characters.{begins_character}

pub begins_low : (byte : ℕ) → byte < 128 → begins_character byte ≡ true
begins_low byte low = or_left _ _ (lt-ltb byte 128 low)

begins_lead : (byte : ℕ) → 192 ≤ byte → begins_character byte ≡ true
begins_lead byte lead = or_right _ _ (le-leb 192 byte lead)

goes_on : (byte : ℕ) → 128 ≤ byte → byte < 192 → begins_character byte ≡ false
goes_on byte low high = or_from _ _ (le-ltb byte 128 low) (lt-leb 192 byte high)

next_goes_on : (bits : ℕ) → begins_character (next bits) ≡ false
next_goes_on bits = goes_on (next bits) (omega arith) (omega arith)

begins_once : (c : ℕ) → count_by begins_character (encode c) ≡ 1
unfolding encode
begins_once c = cond_both (ltb c 128) _ _ (λ bytes. count_by begins_character bytes ≡ 1)
    (λ low. rw (begins_low c (ltb-true c 128 low)) refl)
    (λ _. cond_both (ltb c 2048) _ _ (λ bytes. count_by begins_character bytes ≡ 1)
    (λ _. rw (begins_lead (192 + c / 64) (omega arith), next_goes_on c) refl)
    (λ _. cond_both (ltb c 65536) _ _ (λ bytes. count_by begins_character bytes ≡ 1)
    (λ _. rw (begins_lead (224 + c / 4096) (omega arith), next_goes_on (c / 64), next_goes_on c) refl)
    (λ _. rw (
      begins_lead (240 + c / 262144) (omega arith),
      next_goes_on (c / 4096),
      next_goes_on (c / 64),
      next_goes_on c,
    ) refl)))

begun : (characters : List ℕ) → count_by begins_character (encodes characters) ≡ length characters
begun [] = refl
begun (c ∷ characters) =
    let here = begins_once c in
    let rest = begun characters in
    let both = sum_by-append (λ byte. cond (begins_character byte) 1 0) (encode c) (encodes characters) in
    omega arith

-- a text has as many bytes that begin a character as characters
pub characters_begin : (bytes : List ℕ) → IsUtf8 bytes → count_by begins_character bytes ≡ length (chars bytes)
characters_begin bytes utf8 = ap (count_by begins_character) (sym (encodes-chars bytes utf8)) ∙ begun (chars bytes)
