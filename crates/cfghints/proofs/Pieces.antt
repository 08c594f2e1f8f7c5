-- A text may be cut where the piece at its start ends.
use Rattle.std.proofs.Common.{◌≡◌, ◌==◌, ℕ, suc, ◌+◌, ◌-◌, ◌<◌, ◌≤◌, Bool, true, false, List, [], ◌∷◌, length, get_or, take, drop, refl, sym, subst, arith, ⊎_elim}
use Rattle.std.specs.List.{prefix_len}
use Rattle.std.specs.Str.{IsUtf8, IsCharBoundary}
use Rattle.std.proofs.lemmas.Bool.{cases_lt, leb-true, ltb-true, or_cases}
use Rattle.std.proofs.lemmas.Bool.Decides.{nat_tests}
use Rattle.std.proofs.lemmas.List.{take_rest}
use Rattle.std.proofs.lemmas.List.Sums.{prefix_len_stops, prefix_len-le-length}
use Rattle.std.proofs.lemmas.Str.{IsCharBoundary-end}
use Rattle.cfglines.specs.Characters.{begins_character}
use Rattle.cfgwords.specs.declared.bytes.ByteClass.TheVariants as bytes
use Rattle.cfgwords.specs.Bytes.{holds}
use Rattle.cfgwords.proofs.Boundaries.{boundary_run}
use Rattle.cfghints.specs.Hints.{continues}

-- a piece of ASCII
after_ascii : (test : ℕ → Bool) (first : ℕ) (rest : List ℕ) → IsUtf8 (first ∷ rest) → test first ≡ true
    → ((b : ℕ) → test b ≡ true → b < 128) → IsCharBoundary (first ∷ rest) (1 + prefix_len test rest)
after_ascii test first rest utf8 passes ascii =
    let counted : prefix_len test (first ∷ rest) ≡ 1 + prefix_len test rest = rw passes refl in
    subst (IsCharBoundary (first ∷ rest)) counted (boundary_run test (first ∷ rest) utf8 ascii)

-- a piece before a byte that begins a character
before_byte : (test : ℕ → Bool) (first : ℕ) (rest : List ℕ) → begins_character (get_or rest (prefix_len test rest) 0) ≡ true
    → prefix_len test rest < length rest → IsCharBoundary (first ∷ rest) (suc (prefix_len test rest))
before_byte test first rest begins within = (
  omega arith,
  λ _ high. ⊎_elim
      (λ low. let below : get_or rest (prefix_len test rest) 0 < 128 = ltb-true _ 128 low in absurd (omega arith))
      (λ lead. leb-true _ _ lead)
      (or_cases _ _ begins),
)

before_character : (test : ℕ → Bool) (first : ℕ) (rest : List ℕ) → ((b : ℕ) → test b ≡ false → begins_character b ≡ true)
    → IsCharBoundary (first ∷ rest) (1 + prefix_len test rest)
before_character test first rest begins =
    let few = prefix_len-le-length test rest in
    let same : suc (prefix_len test rest) ≡ 1 + prefix_len test rest = omega arith in
    ⊎_elim
    (λ within. subst (IsCharBoundary (first ∷ rest)) same
    (before_byte test first rest (begins (get_or rest (prefix_len test rest) 0) (prefix_len_stops test rest 0 within)) within))
    (λ over.
    let ended : length (first ∷ rest) ≡ 1 + prefix_len test rest = omega arith in
    subst (IsCharBoundary (first ∷ rest)) ended (IsCharBoundary-end (first ∷ rest)))
    (cases_lt (prefix_len test rest) (length rest))

-- the piece that begins with a byte, by what that byte is
by_first : (first : ℕ) (rest : List ℕ) → IsUtf8 (first ∷ rest) → (keyword name number : Bool)
    → (first == 37) ≡ keyword → holds bytes.NameStart first ≡ name → holds bytes.Digit first ≡ number
    → IsCharBoundary (first ∷ rest) (1 + prefix_len (continues first) rest)
by_first first rest utf8 true name number k n d =
    after_ascii (continues first) first rest utf8 (grind (arith, nat_tests)) (λ b h. grind (arith, nat_tests))
by_first first rest utf8 false true number k n d =
    after_ascii (continues first) first rest utf8 (grind (arith, nat_tests)) (λ b h. grind (arith, nat_tests))
by_first first rest utf8 false false true k n d =
    after_ascii (continues first) first rest utf8 (grind (arith, nat_tests)) (λ b h. grind (arith, nat_tests))
by_first first rest utf8 false false false k n d =
    before_character (continues first) first rest (λ b h. grind (arith, nat_tests))

piece_ends : (first : ℕ) (rest : List ℕ) → IsUtf8 (first ∷ rest)
    → IsCharBoundary (first ∷ rest) (1 + prefix_len (continues first) rest)
piece_ends first rest utf8 = by_first first rest utf8 _ _ _ refl refl refl

of_text : (text : List ℕ) (n : ℕ) → IsUtf8 text → 1 ≤ length text → n ≡ prefix_len (continues (get_or text 0 0)) (drop 1 text)
    → IsCharBoundary text (1 + n)
of_text [] n utf8 some e = absurd (omega arith)
of_text (first ∷ rest) n utf8 some e =
    let ends : IsCharBoundary (first ∷ rest) (1 + prefix_len (continues first) rest) = piece_ends first rest utf8 in
    subst (λ (k : ℕ). IsCharBoundary (first ∷ rest) (1 + k)) (sym e) ends

-- the piece of a text that isn't empty
pub piece_boundary : (text : List ℕ) (n : ℕ) → IsUtf8 text → 1 ≤ length text
    → n ≡ prefix_len (continues (get_or text 0 0)) (take (length text - 1) (drop 1 text)) → IsCharBoundary text (1 + n)
piece_boundary text n utf8 some e = of_text text n utf8 some (rw take_rest at e)
