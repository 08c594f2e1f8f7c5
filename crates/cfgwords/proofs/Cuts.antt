-- After each word and each part of a blank, the rest of a text in UTF-8 is in UTF-8 too.
use Rattle.std.proofs.Common.{◌≡◌, ℕ, ◌+◌, ◌<◌, Bool, true, List, [], ◌∷◌, ◌++◌, length, refl, sym, ap, subst, ◌∙◌, arith, append_assoc, length-append, take_at, drop_at}
use Rattle.std.specs.List.{list_all}
use Rattle.std.specs.Str.{IsUtf8, IsCharBoundary}
use Rattle.std.proofs.Math.Seq.{get_or-append_seam}
use Rattle.std.proofs.lemmas.Bool.{and_parts}
use Rattle.std.proofs.lemmas.Bool.Decides.{nat_tests}
use Rattle.std.proofs.lemmas.List.{append-nil}
use Rattle.std.proofs.lemmas.Str.{IsUtf8-nil, IsUtf8-take, IsUtf8-drop, IsUtf8-past_char, IsCharBoundary-at_seam, IsCharBoundary-before_ascii, encode_ascii}
use Rattle.constructs.specs.Pieces.{IsRun}
use Rattle.cfgwords.specs.declared.bytes.ByteClass.TheVariants as bytes
use Rattle.cfgwords.specs.declared.passed.Passed.{Passed}
use Rattle.cfgwords.specs.declared.passed.Passed.TheVariants.{InString}
use Rattle.cfgwords.specs.Bytes.{holds}
use Rattle.cfgwords.specs.Passed.{stops, EndsInAscii}
use Rattle.cfgwords.specs.Text.{offset_of}
use Rattle.cfgwords.specs.FileWords.{IsName, IsIdentifier, IsQuoted, IsInteger}
use Rattle.cfgwords.proofs.PassedLemmas.{stop_ascii}

-- A text that may be cut where rest begins.
pub record IsCut (text rest : List ℕ) : Type 0 where
  pub piece : List ℕ
  pub whole : text ≡ piece ++ rest
  pub utf8 : IsUtf8 text → IsUtf8 rest

pub cut_here : (text : List ℕ) → IsCut text text
cut_here text = record { piece = []; whole = refl; utf8 = λ u. u }

pub cut_on : (text mid rest : List ℕ) → IsCut text mid → IsCut mid rest → IsCut text rest
cut_on text mid rest a b = record {
  piece = a.piece ++ b.piece;
  whole = a.whole ∙ ap (λ t. a.piece ++ t) b.whole ∙ sym (append_assoc a.piece b.piece rest);
  utf8 = λ u. b.utf8 (a.utf8 u);
}

pub cut_same : (text same rest : List ℕ) → text ≡ same → IsCut same rest → IsCut text rest
cut_same text same rest e = subst (λ t. IsCut t rest) (sym e)

-- after an ASCII byte, and after a word of such bytes
pub cut_byte : (b : ℕ) (rest : List ℕ) → b < 128 → IsCut (b ∷ rest) rest
cut_byte b rest ascii = record {
  piece = b ∷ [];
  whole = refl;
  utf8 = λ u. IsUtf8-past_char (b ∷ rest) rest b u (ap (λ c. c ++ rest) (sym (encode_ascii b ascii)));
}

pub cut_word : (test : ℕ → Bool) → ((b : ℕ) → test b ≡ true → b < 128) → (word rest : List ℕ) → list_all test word ≡ true → IsCut (word ++ rest) rest
cut_word test ascii [] rest passes = cut_here rest
cut_word test ascii (b ∷ word) rest passes =
    let parts = and_parts (test b) (list_all test word) passes in
    cut_on (b ∷ (word ++ rest)) (word ++ rest) rest (cut_byte b (word ++ rest) (ascii b parts.0)) (cut_word test ascii word rest parts.1)

-- before an ASCII byte, whatever precedes it
pub cut_before : (prefix : List ℕ) (b : ℕ) (rest : List ℕ) → b < 128 → IsCut (prefix ++ b ∷ rest) (b ∷ rest)
cut_before prefix b rest ascii = record {
  piece = prefix;
  whole = refl;
  utf8 = λ u.
      let seam = get_or-append_seam prefix b rest 0 in
      let long = length-append prefix (b ∷ rest) in
      subst IsUtf8 (drop_at prefix (b ∷ rest) (length prefix) refl)
      (IsUtf8-drop (prefix ++ b ∷ rest) (length prefix) u (IsCharBoundary-before_ascii (prefix ++ b ∷ rest) (length prefix) (omega arith) (omega arith)));
}

-- at the end; and what precedes an ASCII byte is in UTF-8
pub cut_end : (text : List ℕ) → IsCut text []
cut_end text = record { piece = text; whole = sym (append-nil text); utf8 = λ u. IsUtf8-nil }

pub prefix_utf8 : (prefix : List ℕ) (b : ℕ) (rest : List ℕ) → b < 128 → IsUtf8 (prefix ++ b ∷ rest) → IsUtf8 prefix
prefix_utf8 prefix b rest ascii u =
    let seam = get_or-append_seam prefix b rest 0 in
    let long = length-append prefix (b ∷ rest) in
    subst IsUtf8 (take_at prefix (b ∷ rest) (length prefix) refl)
    (IsUtf8-take (prefix ++ b ∷ rest) (length prefix) u (IsCharBoundary-before_ascii (prefix ++ b ∷ rest) (length prefix) (omega arith) (omega arith)))

-- after a name, an identifier, an integer and a quoted token
run_cut : (test : ℕ → Bool) → ((b : ℕ) → test b ≡ true → b < 128) → (text word rest : List ℕ) → IsRun test text word rest → IsCut text rest
run_cut test ascii text word rest run = cut_same text (word ++ rest) rest run.whole (cut_word test ascii word rest run.passes)

pub name_cut : (text word rest : List ℕ) → IsName text word rest → IsCut text rest
name_cut text word rest is = run_cut (holds bytes.NameByte) (λ b h. grind (arith, nat_tests)) text word rest is.run

pub identifier_cut : (text word rest : List ℕ) → IsIdentifier text word rest → IsCut text rest
identifier_cut text word rest is = run_cut (holds bytes.IdentifierByte) (λ b h. grind (arith, nat_tests)) text word rest is.run

pub integer_cut : (text : List ℕ) (number : ℕ) (rest : List ℕ) → IsInteger text number rest → IsCut text rest
integer_cut text number rest is = run_cut (holds bytes.Digit) (λ b h. grind (arith, nat_tests)) text is.digits rest is.run.run

-- before what ends a line
pub line_rest_cut : (text word rest : List ℕ) → IsRun (holds bytes.Line) text word rest → IsCut text rest
line_rest_cut text word [] is = record { piece = word; whole = is.whole; utf8 = λ u. IsUtf8-nil }
line_rest_cut text word (b ∷ rest) is =
    let ascii : b < 128 = grind (arith, nat_tests, is.longest) in
    cut_same text (word ++ b ∷ rest) (b ∷ rest) is.whole (cut_before word b rest ascii)

-- after the opening quote, before the closing one, and after that
quote_ascii : (b : ℕ) → holds bytes.Quote b ≡ true → b < 128
quote_ascii b h = grind (arith, nat_tests)

pub opened_cut : (text word rest : List ℕ) (is : IsQuoted text word rest) → IsCut text (word ++ is.quote ∷ rest)
opened_cut text word rest is =
    cut_same text (is.quote ∷ (word ++ is.quote ∷ rest)) _ (is.whole ∙ ap (λ w. is.quote ∷ (w ++ is.quote ∷ rest)) (sym is.word_is))
    (cut_byte is.quote (word ++ is.quote ∷ rest) (quote_ascii is.quote is.is_quote))

pub inside_cut : (text word rest : List ℕ) (is : IsQuoted text word rest) → IsCut (word ++ is.quote ∷ rest) (is.quote ∷ rest)
inside_cut text word rest is = cut_before word is.quote rest (quote_ascii is.quote is.is_quote)

pub closed_cut : (text word rest : List ℕ) (is : IsQuoted text word rest) → IsCut (is.quote ∷ rest) rest
closed_cut text word rest is = cut_byte is.quote rest (quote_ascii is.quote is.is_quote)

-- where passing stops: after a string and before a broken one, and after an action
pub stopped_cut : (kind : Passed) (inside left : List ℕ) → EndsInAscii kind → stops kind left ≡ true → IsCut (inside ++ left) left
stopped_cut kind inside [] ascii ends = record { piece = inside; whole = refl; utf8 = λ u. IsUtf8-nil }
stopped_cut kind inside (b ∷ rest) ascii ends = cut_before inside b rest (stop_ascii kind b rest ascii ends)

pub string_cut : (quote : ℕ) (inside rest : List ℕ) → holds bytes.Quote quote ≡ true → IsCut (quote ∷ (inside ++ quote ∷ rest)) rest
string_cut quote inside rest h =
    let ascii = quote_ascii quote h in
    cut_on (quote ∷ (inside ++ quote ∷ rest)) (inside ++ quote ∷ rest) rest (cut_byte quote (inside ++ quote ∷ rest) ascii)
    (cut_on (inside ++ quote ∷ rest) (quote ∷ rest) rest (cut_before inside quote rest ascii) (cut_byte quote rest ascii))

pub broken_cut : (quote : ℕ) (inside left : List ℕ) → holds bytes.Quote quote ≡ true → stops (InString quote) left ≡ true → IsCut (quote ∷ (inside ++ left)) left
broken_cut quote inside left h ends =
    let ascii = quote_ascii quote h in
    cut_on (quote ∷ (inside ++ left)) (inside ++ left) left (cut_byte quote (inside ++ left) ascii) (stopped_cut (InString quote) inside left ascii ends)

pub action_cut : (inside rest : List ℕ) → IsCut (123 ∷ (inside ++ 125 ∷ rest)) rest
action_cut inside rest =
    cut_on (123 ∷ (inside ++ 125 ∷ rest)) (inside ++ 125 ∷ rest) rest (cut_byte 123 (inside ++ 125 ∷ rest) (omega arith))
    (cut_on (inside ++ 125 ∷ rest) (125 ∷ rest) rest (cut_before inside 125 rest (omega arith)) (cut_byte 125 rest (omega arith)))

-- the offset of the rest
pub offset_cut : (text rest : List ℕ) → IsCut text rest → offset_of (length text) rest + length rest ≡ length text
offset_cut text rest cut = omega (arith, ap length cut.whole, length-append cut.piece rest)

pub boundary_cut : (text rest : List ℕ) → IsUtf8 text → IsCut text rest → IsCharBoundary text (offset_of (length text) rest)
boundary_cut text rest u cut =
    let at : length cut.piece ≡ offset_of (length text) rest = omega (arith, ap length cut.whole, length-append cut.piece rest) in
    subst (IsCharBoundary text) at (IsCharBoundary-at_seam text cut.piece rest cut.whole (cut.utf8 u))
