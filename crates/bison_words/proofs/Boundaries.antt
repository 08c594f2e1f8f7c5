-- A text may be cut where a run of one class ends.
use Rattle.std.proofs.Common.{◌≡◌, ℕ, zero, suc, ◌+◌, ◌<◌, ◌≤◌, ◌⊎◌, inl, inr, Bool, true, false, List, length, get_or, min, ap, ◌∙◌, sym, subst, arith, drop, length-drop}
use Rattle.std.specs.List.{prefix_len}
use Rattle.std.specs.Str.{IsUtf8, IsCharBoundary}
use Rattle.std.proofs.lemmas.Bool.{cases_lt}
use Rattle.std.proofs.lemmas.Bool.Decides.{nat_tests}
use Rattle.std.proofs.lemmas.List.Sums.{prefix_len_passes, prefix_len_stops, prefix_len-le-length}
use Rattle.std.proofs.lemmas.Str.{IsCharBoundary-start, IsCharBoundary-end, IsCharBoundary-after_ascii, IsCharBoundary-before_ascii}
use Rattle.bison_words.specs.declared.class.Class.{Class}
use Rattle.bison_words.specs.declared.class.Class.TheVariants.{Any, Blank, Space, Gap, Line, Letter, NameByte, Digit, Hexadecimal, Octal, Odd, Mark, Quote, Quoted, Escape, Comment, CommentLine, CodeQuoted, CodeByte, TagByte}
use Rattle.std.proofs.lemmas.List.{get_or-drop}
use Rattle.bison_words.specs.Bytes.{holds, is_continuation}

-- after some of the bytes that pass, if only ASCII passes
after_passing : (test : ℕ → Bool) (text : List ℕ) → IsUtf8 text → ((b : ℕ) → test b ≡ true → b < 128)
    → (n : ℕ) → n ≤ prefix_len test text → IsCharBoundary text n
after_passing test text utf8 ascii zero e = IsCharBoundary-start text utf8
after_passing test text utf8 ascii (suc n) e =
    let below : n < prefix_len test text = omega arith in
    let within : n < length text = omega (arith, prefix_len-le-length test text) in
    let byte : get_or text n 0 < 128 = ascii (get_or text n 0) (prefix_len_passes test text n 0 below) in
    let boundary : IsCharBoundary text (n + 1) = IsCharBoundary-after_ascii text n utf8 within byte in
    let same : n + 1 ≡ suc n = omega arith in
    subst (IsCharBoundary text) same boundary

-- before the first byte that doesn't pass, if only ASCII bytes don't
before_failing : (test : ℕ → Bool) (text : List ℕ) → ((b : ℕ) → test b ≡ false → b < 128)
    → (prefix_len test text < length text) ⊎ (length text ≤ prefix_len test text) → IsCharBoundary text (prefix_len test text)
before_failing test text ascii (inl within) =
    IsCharBoundary-before_ascii text (prefix_len test text) within (ascii (get_or text (prefix_len test text) 0) (prefix_len_stops test text 0 within))
before_failing test text ascii (inr over) =
    let ended : length text ≡ prefix_len test text = omega (arith, prefix_len-le-length test text) in
    subst (IsCharBoundary text) ended (IsCharBoundary-end text)

boundary_run : (test : ℕ → Bool) (text : List ℕ) → IsUtf8 text → ((b : ℕ) → test b ≡ true → b < 128) → IsCharBoundary text (prefix_len test text)
boundary_run test text utf8 ascii = after_passing test text utf8 ascii (prefix_len test text) (omega arith)

boundary_until : (test : ℕ → Bool) (text : List ℕ) → ((b : ℕ) → test b ≡ false → b < 128) → IsCharBoundary text (prefix_len test text)
boundary_until test text ascii = before_failing test text ascii (cases_lt (prefix_len test text) (length text))

-- a run of a class ends where the text may be cut
pub run_boundary : (class : Class) (text : List ℕ) → IsUtf8 text → IsCharBoundary text (prefix_len (holds class) text)
run_boundary Any text utf8 = boundary_until (holds Any) text (λ b h. cc)
run_boundary Blank text utf8 = boundary_run (holds Blank) text utf8 (λ b h. grind (arith, nat_tests))
run_boundary Space text utf8 = boundary_run (holds Space) text utf8 (λ b h. grind (arith, nat_tests))
run_boundary Gap text utf8 = boundary_run (holds Gap) text utf8 (λ b h. grind (arith, nat_tests))
run_boundary Line text utf8 = boundary_until (holds Line) text (λ b h. grind (arith, nat_tests))
run_boundary Letter text utf8 = boundary_run (holds Letter) text utf8 (λ b h. grind (arith, nat_tests))
run_boundary NameByte text utf8 = boundary_run (holds NameByte) text utf8 (λ b h. grind (arith, nat_tests))
run_boundary Digit text utf8 = boundary_run (holds Digit) text utf8 (λ b h. grind (arith, nat_tests))
run_boundary Hexadecimal text utf8 = boundary_run (holds Hexadecimal) text utf8 (λ b h. grind (arith, nat_tests))
run_boundary Octal text utf8 = boundary_run (holds Octal) text utf8 (λ b h. grind (arith, nat_tests))
run_boundary Odd text utf8 = boundary_until (holds Odd) text (λ b h. grind (arith, nat_tests))
run_boundary Mark text utf8 = boundary_run (holds Mark) text utf8 (λ b h. grind (arith, nat_tests))
run_boundary Quote text utf8 = boundary_run (holds Quote) text utf8 (λ b h. grind (arith, nat_tests))
run_boundary Quoted text utf8 = boundary_until (holds Quoted) text (λ b h. grind (arith, nat_tests))
run_boundary Escape text utf8 = boundary_run (holds Escape) text utf8 (λ b h. grind (arith, nat_tests))
run_boundary Comment text utf8 = boundary_until (holds Comment) text (λ b h. grind (arith, nat_tests))
run_boundary CommentLine text utf8 = boundary_until (holds CommentLine) text (λ b h. grind (arith, nat_tests))
run_boundary CodeQuoted text utf8 = boundary_until (holds CodeQuoted) text (λ b h. grind (arith, nat_tests))
run_boundary CodeByte text utf8 = boundary_until (holds CodeByte) text (λ b h. grind (arith, nat_tests))
run_boundary TagByte text utf8 = boundary_until (holds TagByte) text (λ b h. grind (arith, nat_tests))

-- and so do some digits of an escape
pub few_boundary : (class : Class) (most : ℕ) (text : List ℕ) → IsUtf8 text → (class ≡ Octal) ⊎ (class ≡ Hexadecimal)
    → IsCharBoundary text (min (prefix_len (holds class) text) most)
few_boundary class most text utf8 (inl is) = after_passing (holds class) text utf8 (subst (λ class. (b : ℕ) → holds class b ≡ true → b < 128) (sym is) (λ b h. grind (arith, nat_tests))) _ (omega arith)
few_boundary class most text utf8 (inr is) = after_passing (holds class) text utf8 (subst (λ class. (b : ℕ) → holds class b ≡ true → b < 128) (sym is) (λ b h. grind (arith, nat_tests))) _ (omega arith)

-- and so does a character
pub character_boundary : (text : List ℕ) (n : ℕ) → 1 ≤ length text → n ≡ prefix_len is_continuation (drop 1 text) → IsCharBoundary text (1 + n)
character_boundary text n some e =
    let less = prefix_len-le-length is_continuation (drop 1 text) in
    let all = length-drop 1 text in (
      omega arith,
      λ within high.
          let stops : is_continuation (get_or (drop 1 text) (prefix_len is_continuation (drop 1 text)) 0) ≡ false = prefix_len_stops is_continuation (drop 1 text) 0 (omega arith) in
          let byte : get_or (drop 1 text) (prefix_len is_continuation (drop 1 text)) 0 ≡ get_or text (1 + n) 0 = get_or-drop 1 text _ 0 ∙ ap (λ n. get_or text (1 + n) 0) (sym e) in
          not_continuation (get_or text (1 + n) 0) (ap is_continuation (sym byte) ∙ stops) high,
    )
  where
    not_continuation : (b : ℕ) → is_continuation b ≡ false → 128 ≤ b → 192 ≤ b
    not_continuation b h high = grind (arith, nat_tests)
