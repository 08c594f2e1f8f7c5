-- A text may be cut after each piece that is read of it, and pieces between cuts are pieces of the text.
use Rattle.std.proofs.Common.{◌≡◌, ℕ, suc, ◌+◌, ◌-◌, ◌<◌, Bool, true, List, [], ◌∷◌, ◌++◌, length, take, drop, min, Ok, refl, sym, ap, subst, ◌∙◌, arith, drop_at, take_at, append_assoc, length-append, ltb-true, take-append-drop}
use Rattle.std.specs.Prelude.{nat_lt}
use Rattle.std.specs.List.{prefix_len, list_all}
use Rattle.std.specs.Str.{IsUtf8, IsCharBoundary}
use Rattle.std.proofs.Math.Nat.{min_comm}
use Rattle.std.proofs.lemmas.Bool.{and_parts}
use Rattle.std.proofs.lemmas.Str.{IsUtf8-drop}
use Rattle.constructs.specs.Pieces.{IsRun, IsFirst}
use Rattle.constructs.proofs.Lengths.{left_same}
use Rattle.cfgwords.specs.TextSpans.{IsPiece}
use Rattle.cfgwords.proofs.Cuts.{IsCut, cut_here, cut_on, cut_same, cut_byte, cut_word, cut_before, offset_cut, boundary_cut}
use Rattle.bison_words.specs.declared.class.Class.{Class}
use Rattle.bison_words.specs.declared.class.Class.TheVariants.{Octal, Hexadecimal}
use Rattle.bison_words.specs.Bytes.{holds, is_continuation}
use Rattle.bison_words.specs.Runs.{IsByte, Few, Character}
use Rattle.bison_words.specs.RunGraphs.{run_graph}
use Rattle.bison_words.specs.Words.{offset_of, span_between, first_bytes}
use Rattle.bison_words.proofs.Boundaries.{run_boundary, few_boundary, character_boundary}
use Rattle.std.specs.Prelude.{◌⊎◌}

abbrev pub is_ascii_word : List ℕ → Bool
is_ascii_word word = list_all (λ b. nat_lt b 128) word

pub word_cut : (word text rest : List ℕ) → is_ascii_word word ≡ true → text ≡ word ++ rest → IsCut text rest
word_cut word text rest ascii e = cut_same text (word ++ rest) rest e (cut_word (λ b. nat_lt b 128) (λ b h. ltb-true b 128 h) word rest ascii)

drop_cut : (n : ℕ) (text : List ℕ) → (IsUtf8 text → IsCharBoundary text n) → IsCut text (drop n text)
drop_cut n text boundary = record { piece = take n text; whole = sym (take-append-drop n text); utf8 = λ u. IsUtf8-drop text n u (boundary u) }

pub run_cut : (class : Class) (text word rest : List ℕ) → IsRun (holds class) text word rest → IsCut text rest
run_cut class text word rest is =
    let same : drop (prefix_len (holds class) text) text ≡ rest = sym (ap (λ (x : List ℕ × List ℕ). x.1) (left_same ((run_graph class).only text (Ok (word, rest)) is))) in
    subst (IsCut text) same (drop_cut (prefix_len (holds class) text) text (run_boundary class text))

pub byte_cut : (class : Class) (text : List ℕ) (byte : ℕ) (rest : List ℕ) → IsByte class text byte rest → IsCut text rest
byte_cut class text byte rest is =
    cut_same text (byte ∷ rest) rest is.whole (cut_byte byte rest (ltb-true byte 128 (and_parts (nat_lt byte 128) (holds class byte) is.is_of).0))

pub first_cut : (b : ℕ) (needle text body rest : List ℕ) → b < 128 → is_ascii_word (b ∷ needle) ≡ true → IsFirst (b ∷ needle) text body rest → IsCut text rest
first_cut b needle text body rest small ascii is =
    cut_same text (body ++ b ∷ (needle ++ rest)) rest (is.whole ∙ append_assoc body (b ∷ needle) rest)
    (cut_on (body ++ b ∷ (needle ++ rest)) (b ∷ (needle ++ rest)) rest (cut_before body b (needle ++ rest) small)
    (word_cut (b ∷ needle) (b ∷ (needle ++ rest)) rest ascii refl))

pub few_cut : (class : Class) (most : ℕ) (text word rest : List ℕ) → (class ≡ Octal) ⊎ (class ≡ Hexadecimal) → Few class most text (Ok (word, rest)) → IsCut text rest
few_cut class most text word rest is e =
    let same : drop (min most (prefix_len (holds class) text)) text ≡ rest = sym (ap (λ (x : List ℕ × List ℕ). x.1) (left_same e)) in
    subst (IsCut text) same
    (drop_cut (min most (prefix_len (holds class) text)) text (λ u. subst (IsCharBoundary text) (min_comm (prefix_len (holds class) text) most) (few_boundary class most text u is)))

pub character_cut : (text : List ℕ) (u : Unit {0}) (rest : List ℕ) → Character text (Ok (u, rest)) → IsCut text rest
character_cut [] u rest e = subst (IsCut []) (sym (ap (λ (x : Unit {0} × List ℕ). x.1) (left_same e))) (cut_here [])
character_cut (b ∷ text) u rest e =
    let n : ℕ = prefix_len is_continuation text in
    let same : drop (suc n) (b ∷ text) ≡ rest = sym (ap (λ (x : Unit {0} × List ℕ). x.1) (left_same e)) in
    let more : 1 + n ≡ suc n = omega arith in
    subst (IsCut (b ∷ text)) same (drop_cut (suc n) (b ∷ text) (λ u. subst (IsCharBoundary (b ∷ text)) more (character_boundary (b ∷ text) n (omega arith) refl)))

-- what is between two cuts
pub piece_between : (whole start rest : List ℕ) → IsUtf8 whole → IsCut whole start → IsCut start rest → IsPiece whole (span_between (length whole) start rest)
piece_between whole start rest utf8 origin further = record {
  ordered = omega (arith, offset_cut start rest further, offset_cut whole start origin);
  begins_at = boundary_cut whole start utf8 origin;
  ends_at = boundary_cut whole rest utf8 (cut_on whole start rest origin further);
}

-- a text's first bytes, up to a cut
pub piece_first : (whole start rest : List ℕ) (n : ℕ) → IsUtf8 whole → IsCut whole start → IsCut start rest → length start ≡ n + length rest
    → IsPiece whole (first_bytes (length whole) start n)
piece_first whole start rest n utf8 origin further long =
    let there = boundary_cut whole rest utf8 (cut_on whole start rest origin further) in
    let same : offset_of (length whole) rest ≡ offset_of (length whole) start + n = omega (arith, offset_cut whole start origin, offset_cut start rest further) in
    record {
      ordered = omega arith;
      begins_at = boundary_cut whole start utf8 origin;
      ends_at = subst (IsCharBoundary whole) same there;
    }

-- what a text begins with, as the whole text's bytes there
pub covers : (whole start word rest : List ℕ) → IsCut whole start → start ≡ word ++ rest
    → take (offset_of (length whole) rest - offset_of (length whole) start) (drop (offset_of (length whole) start) whole) ≡ word
covers whole start word rest cut e =
    let at : offset_of (length whole) start ≡ length cut.piece = omega (arith, ap length cut.whole, length-append cut.piece start) in
    let long : length word ≡ offset_of (length whole) rest - offset_of (length whole) start = omega (arith, ap length cut.whole, length-append cut.piece start, ap length e, length-append word rest) in
    let dropped : drop (offset_of (length whole) start) whole ≡ word ++ rest = ap (drop (offset_of (length whole) start)) cut.whole ∙ drop_at cut.piece start _ (sym at) ∙ e in
    ap (take (offset_of (length whole) rest - offset_of (length whole) start)) dropped ∙ take_at word rest _ long
