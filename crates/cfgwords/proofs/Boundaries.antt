-- A text may be cut where a run of one class ends.
use Rattle.std.proofs.Common.{◌≡◌, ◌==◌, ℕ, zero, suc, ◌+◌, ◌<◌, ◌≤◌, ◌⊎◌, inl, inr, Bool, true, false, List, [], ◌∷◌, length, get_or, refl, subst, arith, drop}
use Rattle.std.specs.List.{prefix_len}
use Rattle.std.specs.Str.{IsUtf8, IsCharBoundary}
use Rattle.std.proofs.lemmas.Bool.{cases_lt}
use Rattle.std.proofs.lemmas.Bool.Decides.{nat_tests}
use Rattle.std.proofs.lemmas.List.Sums.{prefix_len_passes, prefix_len_stops, prefix_len-le-length}
use Rattle.std.proofs.lemmas.Str.{IsCharBoundary-start, IsCharBoundary-end, IsCharBoundary-after_ascii, IsCharBoundary-before_ascii}
use Rattle.constructs.specs.Pieces.{starts}
use Rattle.constructs.proofs.PiecesLemmas.{IsRun-run}
use Rattle.cfgwords.specs.declared.bytes.ByteClass.{ByteClass}
use Rattle.cfgwords.specs.declared.bytes.ByteClass.TheVariants.{Blank, LineEnd, Line, Quote, Letter, NameStart, NameByte, IdentifierStart, IdentifierByte, Digit}
use Rattle.cfgwords.specs.Bytes.{holds}

-- after the last byte that passes, if only ASCII passes
after_passing : (test : ℕ → Bool) (text : List ℕ) → IsUtf8 text → ((b : ℕ) → test b ≡ true → b < 128)
    → (n : ℕ) → prefix_len test text ≡ n → IsCharBoundary text n
after_passing test text utf8 ascii zero e = IsCharBoundary-start text utf8
after_passing test text utf8 ascii (suc n) e =
    let below : n < prefix_len test text = omega arith in
    let within : n < length text = omega (arith, prefix_len-le-length test text) in
    let byte : get_or text n 0 < 128 = ascii (get_or text n 0) (prefix_len_passes test text n 0 below) in
    let boundary : IsCharBoundary text (n + 1) = IsCharBoundary-after_ascii text n utf8 within byte in
    let same : n + 1 ≡ suc n = omega arith in
    subst (IsCharBoundary text) same boundary

pub boundary_run : (test : ℕ → Bool) (text : List ℕ) → IsUtf8 text → ((b : ℕ) → test b ≡ true → b < 128)
    → IsCharBoundary text (prefix_len test text)
boundary_run test text utf8 ascii = after_passing test text utf8 ascii (prefix_len test text) refl

-- before the first byte that doesn't pass, if only ASCII bytes don't
before_failing : (test : ℕ → Bool) (text : List ℕ) → ((b : ℕ) → test b ≡ false → b < 128)
    → (prefix_len test text < length text) ⊎ (length text ≤ prefix_len test text) → IsCharBoundary text (prefix_len test text)
before_failing test text ascii (inl within) =
    IsCharBoundary-before_ascii text (prefix_len test text) within (ascii (get_or text (prefix_len test text) 0) (prefix_len_stops test text 0 within))
before_failing test text ascii (inr over) =
    let ended : length text ≡ prefix_len test text = omega (arith, prefix_len-le-length test text) in
    subst (IsCharBoundary text) ended (IsCharBoundary-end text)

pub boundary_until : (test : ℕ → Bool) (text : List ℕ) → ((b : ℕ) → test b ≡ false → b < 128)
    → IsCharBoundary text (prefix_len test text)
boundary_until test text ascii = before_failing test text ascii (cases_lt (prefix_len test text) (length text))

-- a run of a class ends where the text may be cut
pub run_boundary : (class : ByteClass) (text : List ℕ) → IsUtf8 text → IsCharBoundary text (prefix_len (holds class) text)
run_boundary Blank text utf8 = boundary_run (holds Blank) text utf8 (λ b h. grind (arith, nat_tests))
run_boundary LineEnd text utf8 = boundary_run (holds LineEnd) text utf8 (λ b h. grind (arith, nat_tests))
run_boundary Line text utf8 = boundary_until (holds Line) text (λ b h. grind (arith, nat_tests))
run_boundary Quote text utf8 = boundary_run (holds Quote) text utf8 (λ b h. grind (arith, nat_tests))
run_boundary Letter text utf8 = boundary_run (holds Letter) text utf8 (λ b h. grind (arith, nat_tests))
run_boundary NameStart text utf8 = boundary_run (holds NameStart) text utf8 (λ b h. grind (arith, nat_tests))
run_boundary NameByte text utf8 = boundary_run (holds NameByte) text utf8 (λ b h. grind (arith, nat_tests))
run_boundary IdentifierStart text utf8 = boundary_run (holds IdentifierStart) text utf8 (λ b h. grind (arith, nat_tests))
run_boundary IdentifierByte text utf8 = boundary_run (holds IdentifierByte) text utf8 (λ b h. grind (arith, nat_tests))
run_boundary Digit text utf8 = boundary_run (holds Digit) text utf8 (λ b h. grind (arith, nat_tests))

-- the rest after a run begins with another byte, if with any
pub run_stops : (class : ByteClass) (text : List ℕ) → starts (holds class) (drop (prefix_len (holds class) text) text) ≡ false
run_stops class text = (IsRun-run (holds class) text).longest

-- A text may be cut after a CR, an LF or a blank's byte that it begins with,
pub after_line_end : (text : List ℕ) → IsUtf8 text → starts (holds Line) text ≡ false → (length text == 0) ≡ false → IsCharBoundary text 1
after_line_end [] utf8 h some = let no : true ≡ false = some in absurd (cc)
after_line_end (b ∷ text) utf8 h some =
    let ascii : b < 128 = grind (arith, nat_tests, h) in
    IsCharBoundary-after_ascii (b ∷ text) 0 utf8 (omega arith) ascii

pub after_blank : (text : List ℕ) → IsUtf8 text → holds Blank (get_or text 0 0) ≡ true → 1 ≤ length text → IsCharBoundary text 1
after_blank text utf8 h some =
    let ascii : get_or text 0 0 < 128 = grind (arith, nat_tests, h) in
    IsCharBoundary-after_ascii text 0 utf8 (omega arith) ascii

-- and after a quote, a string's closing quote or a brace
pub after_byte : (text : List ℕ) → IsUtf8 text → get_or text 0 0 < 128 → 1 ≤ length text → IsCharBoundary text 1
after_byte text utf8 ascii some = IsCharBoundary-after_ascii text 0 utf8 (omega arith) ascii

pub after_quote : (text : List ℕ) → IsUtf8 text → holds Quote (get_or text 0 0) ≡ true → 1 ≤ length text → IsCharBoundary text 1
after_quote text utf8 h some = let ascii : get_or text 0 0 < 128 = grind (arith, nat_tests, h) in after_byte text utf8 ascii some

pub after_closing : (text : List ℕ) (quote : ℕ) → IsUtf8 text → holds Quote quote ≡ true → get_or text 0 0 ≡ quote → 1 ≤ length text → IsCharBoundary text 1
after_closing text quote utf8 h e some = after_quote text utf8 (rw e h) some
