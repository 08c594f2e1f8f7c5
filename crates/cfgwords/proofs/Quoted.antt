-- Where a quoted token ends, by its bytes.
use Rattle.std.proofs.Common.{◌≡◌, ◌≢◌, ℕ, suc, ◌+◌, ◌<◌, ◌≤◌, ◌==◌, true, false, List, [], ◌∷◌, length, take, drop, get_or, Some, None, refl, ◌∙◌, arith, add-one, drop-cons, eq-eqb, length-drop}
use Rattle.std.proofs.lemmas.List.{drop-drop, drop_all}
use Rattle.constructs.specs.Pieces.{run}
use Rattle.std.specs.List.{prefix_len}
use Rattle.std.specs.Str.{IsUtf8, IsCharBoundary}
use Rattle.std.proofs.lemmas.Str.{IsCharBoundary-after_ascii, IsCharBoundary-before_ascii, IsUtf8-drop}
use Rattle.std.proofs.Common.{add-zero}
use Rattle.std.proofs.lemmas.List.{get_or-drop}
use Rattle.std.proofs.lemmas.Bool.Decides.{nat_tests}
use Rattle.cfgwords.specs.declared.bytes.ByteClass.TheVariants as bytes
use Rattle.cfgwords.specs.Bytes.{holds}
use Rattle.cfgwords.specs.Inner.Ends.{IsQuotedLen}
use Rattle.cfgwords.specs.FileWords.{closed, opened, quoted_of, is_inside}

-- the first two bytes open a quoted token, or don't
pub quoted_opened : (text : List ℕ) → 2 ≤ length text → quoted_of text ≡ opened (get_or text 0 0) (get_or text 1 0) (drop 2 text)
unfolding quoted_of
quoted_opened [] h = absurd (omega arith)
quoted_opened (a ∷ []) h = absurd (omega arith)
quoted_opened (a ∷ b ∷ text) h = refl

pub quoted_short : (text : List ℕ) → length text < 2 → quoted_of text ≡ None
unfolding quoted_of
quoted_short [] h = refl
quoted_short (a ∷ []) h = refl
quoted_short (a ∷ b ∷ text) h = absurd (omega arith)

pub quoted_other : (text : List ℕ) → 2 ≤ length text → holds bytes.Quote (get_or text 0 0) ≡ false → quoted_of text ≡ None
quoted_other text two other = quoted_opened text two ∙ rw other refl

pub quoted_line : (text : List ℕ) → 2 ≤ length text → get_or text 1 0 ≡ 10 → quoted_of text ≡ None
quoted_line text two line = quoted_opened text two ∙ grind (arith, nat_tests, line)

opened_with : (quote first : ℕ) (text : List ℕ) → holds bytes.Quote quote ≡ true → first ≢ 10
    → opened quote first text ≡ closed quote first (run (is_inside quote) text)
opened_with quote first text q h =
    let test : (first == 10) ≡ false = grind (arith, nat_tests) in
    rw q (rw test refl)

closed_at_end : (quote first : ℕ) (others tail : List ℕ) → tail ≡ [] → closed quote first (others, tail) ≡ None
closed_at_end quote first others tail e = rw e refl

closed_here : (quote first b : ℕ) (others tail rest : List ℕ) → tail ≡ b ∷ rest → b ≡ quote → closed quote first (others, tail) ≡ Some (first ∷ others, rest)
closed_here quote first b others tail rest e h = rw e (rw (eq-eqb b quote h) refl)

closed_elsewhere : (quote first b : ℕ) (others tail rest : List ℕ) → tail ≡ b ∷ rest → b ≢ quote → closed quote first (others, tail) ≡ None
closed_elsewhere quote first b others tail rest e h =
    let test : (b == quote) ≡ false = grind (arith, nat_tests) in
    rw e (rw test refl)

pub quoted_open : (text : List ℕ) → 2 ≤ length text → holds bytes.Quote (get_or text 0 0) ≡ true → get_or text 1 0 ≢ 10
    → (n : ℕ) → n ≡ prefix_len (is_inside (get_or text 0 0)) (drop 2 text) → length text ≤ 2 + n → quoted_of text ≡ None
quoted_open text two quote line n e over =
    quoted_opened text two ∙ opened_with (get_or text 0 0) (get_or text 1 0) (drop 2 text) quote line
    ∙ closed_at_end (get_or text 0 0) (get_or text 1 0) _ _ (drop_all _ (drop 2 text) (omega (arith, length-drop 2 text)))

-- the byte after the name
at_inside : (text : List ℕ) (n : ℕ) → 2 + n < length text → drop n (drop 2 text) ≡ get_or text (2 + n) 0 ∷ drop (3 + n) text
at_inside text n within = grind (arith, drop-drop n 2 text, drop-cons text (2 + n) 0, add-one)

pub quoted_other_end : (text : List ℕ) → 2 ≤ length text → holds bytes.Quote (get_or text 0 0) ≡ true → get_or text 1 0 ≢ 10
    → (n : ℕ) → n ≡ prefix_len (is_inside (get_or text 0 0)) (drop 2 text) → 2 + n < length text → get_or text (2 + n) 0 ≢ get_or text 0 0 → quoted_of text ≡ None
quoted_other_end text two quote line n e within other =
    let tail = at_inside text n within in
    quoted_opened text two ∙ opened_with (get_or text 0 0) (get_or text 1 0) (drop 2 text) quote line
    ∙ closed_elsewhere (get_or text 0 0) (get_or text 1 0) (get_or text (2 + n) 0) _ _ (drop (3 + n) text) (rw (← e) tail) other

ascii_quote : (b : ℕ) → holds bytes.Quote b ≡ true → b < 128
ascii_quote b h = grind (arith, nat_tests)

name_taken : (quote first : ℕ) (text : List ℕ) (n : ℕ) → take (1 + n) (drop 1 (quote ∷ first ∷ text)) ≡ first ∷ take n text
name_taken quote first text n = let e : 1 + n ≡ suc n = omega arith in rw e refl

pub quoted_found : (text : List ℕ) → 2 ≤ length text → holds bytes.Quote (get_or text 0 0) ≡ true → get_or text 1 0 ≢ 10
    → (n : ℕ) → n ≡ prefix_len (is_inside (get_or text 0 0)) (drop 2 text) → 2 + n < length text → get_or text (2 + n) 0 ≡ get_or text 0 0
    → IsQuotedLen text (1 + n)
quoted_found [] two quote line n e within same = absurd (omega arith)
quoted_found (a ∷ []) two quote line n e within same = absurd (omega arith)
quoted_found (a ∷ b ∷ text) two quote line n e within same =
    let whole = a ∷ b ∷ text in
    let tail = at_inside whole n within in
    let rest : drop 1 (drop (1 + n) (drop 1 whole)) ≡ drop (3 + n) whole = grind (arith, drop-drop 1 (1 + n) (drop 1 whole), drop-drop (1 + n + 1) 1 whole) in
    let ends : 1 + (1 + n) ≡ 2 + n = omega arith in
    record {
      is = quoted_opened whole two ∙ opened_with a b text quote line
          ∙ closed_here a b (get_or whole (2 + n) 0) _ _ (drop (3 + n) whole) (rw (← e) tail) same
          ∙ rw (rest, name_taken a b text n, e) refl;
      opens = ascii_quote a quote;
      closes = rw (ends, same) (ascii_quote a quote);
      within = omega arith;
    }

-- A text may be cut after the opening quote, before the closing one and after that.
pub cut_opened : (text : List ℕ) (n : ℕ) → IsUtf8 text → IsQuotedLen text n → IsCharBoundary text 1
cut_opened text n utf8 h = IsCharBoundary-after_ascii text 0 utf8 (omega (arith, h.within)) h.opens

pub cut_name : (text opened : List ℕ) (n : ℕ) → IsQuotedLen text n → opened ≡ drop 1 text → IsCharBoundary opened n
cut_name text opened n h e =
    let within : n < length (drop 1 text) = omega (arith, h.within, length-drop 1 text) in
    let byte : get_or (drop 1 text) n 0 < 128 = rw get_or-drop h.closes in
    rw e (IsCharBoundary-before_ascii (drop 1 text) n within byte)

pub cut_closed : (text opened closed : List ℕ) (n : ℕ) → IsUtf8 text → IsQuotedLen text n → opened ≡ drop 1 text → closed ≡ drop n opened → IsCharBoundary closed 1
cut_closed text opened closed n utf8 h e f =
    let first : IsUtf8 (drop 1 text) = IsUtf8-drop text 1 utf8 (cut_opened text n utf8 h) in
    let second : IsUtf8 (drop n (drop 1 text)) = IsUtf8-drop (drop 1 text) n first (cut_name text (drop 1 text) n h refl) in
    let within : 0 < length (drop n (drop 1 text)) = omega (arith, h.within, length-drop 1 text, length-drop n (drop 1 text)) in
    let byte : get_or (drop n (drop 1 text)) 0 0 < 128 = rw (get_or-drop, get_or-drop) (rw add-zero h.closes) in
    rw (f, e) (IsCharBoundary-after_ascii (drop n (drop 1 text)) 0 second within byte)
