-- The first characters of a piece of a text: where they end, by the bytes that begin characters.
use Rattle.std.proofs.Common.{◌≡◌, ℕ, zero, suc, ◌+◌, ◌-◌, ◌<◌, ◌≤◌, ◌==◌, Bool, true, false, cond, if◌then◌else◌, List, [], ◌∷◌, length, length-take, length-drop, take, drop, min, get_or, get_or-drop, ◌⊎◌, ⊎_elim, subst, refl, ◌∙◌, ap, sym, arith}
use Rattle.std.proofs.lemmas.Bool.{cases_lt, cases_order, eqb-true, eqb-false, le-leb, leb-true, lt-ltb, ltb-true, or_cases, or_left, or_right}
use Rattle.std.proofs.lemmas.List.{get_or-take, take_all}
use Rattle.std.proofs.Math.Seq.{take-add}
use Rattle.std.proofs.lemmas.List.Sums.{sum_by-append, sum_by-cons, sum_by_more_le, sum_by-take-drop, sum_by-take-le}
use Rattle.std.specs.Fmt.{take_chars}
use Rattle.std.specs.Str.{IsCharBoundary, IsUtf8}
use Rattle.std.proofs.lemmas.Str.{IsCharBoundary-start}
use Rattle.cfglines.specs.Characters.{begins_character}
use Rattle.cfgrender.specs.Render.{characters}

-- these bytes are the first n characters
pub record IsCut (n : ℕ) (bytes : List ℕ) (r : ℕ) : Type 0 where
  pub within : r ≤ length bytes
  pub begins : r < length bytes → begins_character (get_or bytes r 0) ≡ true
  pub count : characters (take r bytes) ≡ min n (characters bytes)

abbrev begun : ℕ → ℕ
begun byte = cond (begins_character byte) 1 0

characters-cons : (byte : ℕ) (bytes : List ℕ) → characters (byte ∷ bytes) ≡ begun byte + characters bytes
characters-cons byte bytes = sum_by-cons begun byte bytes

pub characters-take-le : (bytes : List ℕ) (i : ℕ) → characters (take i bytes) ≤ characters bytes
characters-take-le bytes i = sum_by-take-le begun bytes i

pub characters-take-drop : (bytes : List ℕ) (i : ℕ) → characters (take i bytes) + characters (drop i bytes) ≡ characters bytes
characters-take-drop bytes i = sum_by-take-drop begun bytes i

-- where the first n characters end
pub cut_first : (n : ℕ) (bytes : List ℕ) → IsCut n bytes (length (take_chars n bytes))
unfolding take_chars
cut_first n [] = record { within = omega arith; begins = λ less. absurd (omega arith); count = omega arith }
cut_first n (byte ∷ bytes) = by_byte (begins_character byte) (n == 0) refl refl (cut_first (n - 1) bytes) (cut_first n bytes)
  where
    by_byte : (starts none : Bool) → begins_character byte ≡ starts → (n == 0) ≡ none
        → IsCut (n - 1) bytes (length (take_chars (n - 1) bytes)) → IsCut n bytes (length (take_chars n bytes))
        → IsCut n (byte ∷ bytes) (length (if starts then (if none then [] else byte ∷ take_chars (n - 1) bytes) else byte ∷ take_chars n bytes))
    by_byte true true here end _ _ =
        let nothing : n ≡ 0 = eqb-true n 0 end in
        record { within = omega arith; begins = λ _. here; count = omega arith }
    by_byte true false here some rest _ =
        let positive : n ≡ 0 → ⊥ = eqb-false n 0 some in
        let whole : characters (byte ∷ bytes) ≡ 1 + characters bytes = characters-cons byte bytes ∙ rw here refl in
        let part : characters (byte ∷ take (length (take_chars (n - 1) bytes)) bytes) ≡ 1 + characters (take (length (take_chars (n - 1) bytes)) bytes) =
        characters-cons byte (take (length (take_chars (n - 1) bytes)) bytes) ∙ rw here refl in
        record {
          within = omega (arith, rest.within);
          begins = λ less. rest.begins (omega arith);
          count = omega (arith, rest.count);
        }
    by_byte false none here _ _ rest =
        let whole : characters (byte ∷ bytes) ≡ 0 + characters bytes = characters-cons byte bytes ∙ rw here refl in
        let part : characters (byte ∷ take (length (take_chars n bytes)) bytes) ≡ 0 + characters (take (length (take_chars n bytes)) bytes) =
        characters-cons byte (take (length (take_chars n bytes)) bytes) ∙ rw here refl in
        record {
          within = omega (arith, rest.within);
          begins = λ less. rest.begins (omega arith);
          count = omega (arith, rest.count);
        }

pub take_take : (r s : ℕ) (bytes : List ℕ) → r ≤ s → take r (take s bytes) ≡ take r bytes
take_take zero s bytes le = refl
take_take (suc r) zero bytes le = absurd (omega arith)
take_take (suc r) (suc s) [] le = refl
take_take (suc r) (suc s) (byte ∷ bytes) le = ap {B = List ℕ} (λ rest. byte ∷ rest) (take_take r s bytes (omega arith))

-- past a byte that begins a character there is one character more
pub more_after : (bytes : List ℕ) (r s : ℕ) → r < s → s ≤ length bytes → begins_character (get_or bytes r 0) ≡ true
    → characters (take r bytes) < characters (take s bytes)
more_after bytes r s less within begins =
    let shorter : r < length (take s bytes) = omega (arith, length-take s bytes) in
    let more = sum_by_more_le begun (take s bytes) r 0 shorter in
    let same : get_or (take s bytes) r 0 ≡ get_or bytes r 0 = get_or-take s bytes r 0 less in
    let one : begun (get_or (take s bytes) r 0) ≡ 1 = rw (same, begins) refl in
    let before : characters (take r (take s bytes)) ≡ characters (take r bytes) = ap characters (take_take r s bytes (omega arith)) in
    omega arith

pub same_cut : (n : ℕ) (bytes : List ℕ) (r s : ℕ) → IsCut n bytes r → IsCut n bytes s → r ≡ s
same_cut n bytes r s first second = ⊎_elim (λ same. same)
    (λ differ. ⊎_elim
    (λ less. let more = more_after bytes r s less second.within (first.begins (omega (arith, second.within))) in
    absurd (omega (arith, first.count, second.count)))
    (λ less. let more = more_after bytes s r less first.within (second.begins (omega (arith, first.within))) in
    absurd (omega (arith, first.count, second.count)))
    differ)
    (cases_order r s)

pub cut_is : (n : ℕ) (bytes : List ℕ) (r : ℕ) → IsCut n bytes r → length (take_chars n bytes) ≡ r
cut_is n bytes r cut = same_cut n bytes _ r (cut_first n bytes) cut

-- the first n characters end before a byte that begins the next one
pub cut_here : (n : ℕ) (bytes : List ℕ) (r : ℕ) → r < length bytes → begins_character (get_or bytes r 0) ≡ true
    → characters (take r bytes) ≡ n → length (take_chars n bytes) ≡ r
cut_here n bytes r within begins count =
    let part = characters-take-le bytes r in
    cut_is n bytes r (record { within = omega arith; begins = λ _. begins; count = omega arith })

-- there are no more than n characters
pub cut_all : (n : ℕ) (bytes : List ℕ) → characters bytes ≤ n → length (take_chars n bytes) ≡ length bytes
cut_all n bytes few =
    let whole : characters (take (length bytes) bytes) ≡ characters bytes = ap characters (take_all (length bytes) bytes (omega arith)) in
    cut_is n bytes (length bytes) (record { within = omega arith; begins = λ less. absurd (omega arith); count = omega arith })

pub cut_whole : (n : ℕ) (bytes : List ℕ) → length (take_chars n bytes) ≡ length bytes → characters bytes ≤ n
cut_whole n bytes all =
    let cut = cut_first n bytes in
    let whole : characters (take (length (take_chars n bytes)) bytes) ≡ characters bytes =
    ap characters (take_all (length (take_chars n bytes)) bytes (omega arith)) in
    omega (arith, cut.count)

-- the first m characters, and then n more
pub cut_more : (m n : ℕ) (bytes : List ℕ) (r s : ℕ) → IsCut m bytes r → IsCut n (drop r bytes) s → IsCut (m + n) bytes (r + s)
cut_more m n bytes r s first next =
    let back = length-drop r bytes in
    let both : characters (take (r + s) bytes) ≡ characters (take r bytes) + characters (take s (drop r bytes)) =
    ap characters (take-add r s bytes) ∙ sum_by-append begun (take r bytes) (take s (drop r bytes)) in
    let whole = characters-take-drop bytes r in
    record {
      within = omega (arith, first.within, next.within);
      begins = λ less. let there = next.begins (omega (arith, first.within)) in
          subst (λ byte. begins_character byte ≡ true) (get_or-drop r bytes s 0) there;
      count = omega (arith, first.count, next.count);
    }

-- a character begins at a character boundary, and only there, unless the text ends
pub boundary_begins : (bytes : List ℕ) (r : ℕ) → IsCharBoundary bytes r → r < length bytes → begins_character (get_or bytes r 0) ≡ true
boundary_begins bytes r boundary less = ⊎_elim
    (λ low. or_left _ _ (lt-ltb _ _ low))
    (λ high. or_right _ _ (le-leb _ _ (boundary.1 less high)))
    (cases_lt (get_or bytes r 0) 128)

pub boundary_from_begins : (bytes : List ℕ) (r : ℕ) → r ≤ length bytes → (r < length bytes → begins_character (get_or bytes r 0) ≡ true) → IsCharBoundary bytes r
boundary_from_begins bytes r within begins = (
  within,
  λ less high. ⊎_elim
      (λ low. let below = ltb-true (get_or bytes r 0) 128 low in absurd (omega arith))
      (λ lead. leb-true _ _ lead)
      (or_cases _ _ (begins less)),
)

-- the first characters of a text's prefix are its own
pub cut_of_prefix : (n : ℕ) (bytes : List ℕ) (at r : ℕ) → IsCharBoundary bytes at → n ≤ characters (take at bytes) → IsCut n (take at bytes) r → IsCut n bytes r
cut_of_prefix n bytes at r boundary few cut =
    let len = length-take at bytes in
    let part = characters-take-le bytes at in
    let inner : r ≤ at = omega (arith, cut.within) in
    let same : characters (take r (take at bytes)) ≡ characters (take r bytes) = ap characters (take_take r at bytes inner) in
    record {
      within = omega (arith, cut.within);
      begins = λ less. ⊎_elim
          (λ before. subst (λ byte. begins_character byte ≡ true) (get_or-take at bytes r 0 before) (cut.begins (omega arith)))
          (λ end. subst (λ i. begins_character (get_or bytes i 0) ≡ true) (omega arith) (boundary_begins bytes at boundary (omega arith)))
          (cases_lt r at);
      count = omega (arith, cut.count);
    }

-- where the last characters start: as many as are counted from there on, or all
pub cut_back : (bytes : List ℕ) (count left start : ℕ) → IsUtf8 bytes → start ≤ length bytes → left + characters (drop start bytes) ≡ count
    → (left ≡ 0 → start < length bytes → begins_character (get_or bytes start 0) ≡ true) → (start ≡ 0) ⊎ (left ≡ 0)
    → start ≡ length (take_chars (characters bytes - count) bytes)
cut_back bytes count left start utf8 within counted begins ends =
    let whole = characters-take-drop bytes start in
    sym (cut_is (characters bytes - count) bytes start (⊎_elim
    (λ (first : start ≡ 0).
    let none : characters (take start bytes) ≡ 0 = ap (λ i. characters (take i bytes)) first in
    record {
      within = within;
      begins = λ less. subst (λ i. begins_character (get_or bytes i 0) ≡ true) (sym first) (boundary_begins bytes 0 (IsCharBoundary-start bytes utf8) (omega arith));
      count = omega arith;
    })
    (λ (all : left ≡ 0). record { within = within; begins = begins all; count = omega arith })
    ends))
