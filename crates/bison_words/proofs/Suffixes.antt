-- Suffixes of a text.
use Rattle.std.proofs.Common.{◌≡◌, ℕ, ◌+◌, ◌-◌, List, [], ◌∷◌, ◌++◌, Ok, length, take, drop, get_or, add-zero, Some, sym, ◌∙◌, ap, subst, arith, drop_at, length-append, take-append-drop}
use Rattle.std.specs.Str.{IsUtf8, IsCharBoundary}
use Rattle.std.proofs.lemmas.Str.{IsCharBoundary-start}
use Rattle.std.proofs.lemmas.List.{get_or-drop}
use Rattle.std.specs.List.{prefix_len}
use Rattle.constructs.specs.Pieces.{strip, split_first, run}
use Rattle.constructs.proofs.Lengths.{left_same}
use Rattle.constructs.proofs.PiecesLemmas.{strip_sound, split_first_sound}
use Rattle.bison_words.specs.declared.class.Class.{Class}
use Rattle.bison_words.specs.Bytes.{holds, is_continuation}
use Rattle.bison_words.specs.Runs.{byte_of, character_of}
use Rattle.bison_words.specs.RunGraphs.{byte_finder}
use Rattle.bison_words.specs.Suffixes.{IsSuffix}

-- what follows a prefix
pub append_suffix : (text prefix rest : List ℕ) → text ≡ prefix ++ rest → IsSuffix text rest
append_suffix text prefix rest e =
    let n : length text ≡ length prefix + length rest = ap length e ∙ length-append prefix rest in
    let same : length prefix ≡ length text - length rest = omega arith in
    record { shorter = omega arith; is = ap (drop (length text - length rest)) e ∙ drop_at prefix rest _ same }

-- what is left of a text,
pub drop_suffix : (n : ℕ) (text : List ℕ) → IsSuffix text (drop n text)
drop_suffix n text = append_suffix text (take n text) (drop n text) (sym (take-append-drop n text))

-- what follows a word, and what follows a needle
pub strip_suffix : (word text rest : List ℕ) → strip word text ≡ Some rest → IsSuffix text rest
strip_suffix word text rest e = append_suffix text word rest (strip_sound word text rest e)

pub first_suffix : (needle text body rest : List ℕ) → split_first needle text ≡ Some (body, rest) → IsSuffix text rest
first_suffix needle text body rest e = append_suffix text (body ++ needle) rest (split_first_sound needle text body rest e).whole

-- the first byte of a suffix
suffix_byte : (text rest : List ℕ) → IsSuffix text rest → get_or text (length text - length rest) 0 ≡ get_or rest 0 0
suffix_byte text rest s =
    ap (λ n. get_or text n 0) (sym (add-zero (length text - length rest))) ∙ sym (get_or-drop (length text - length rest) text 0 0) ∙ ap (λ (x : List ℕ). get_or x 0 0) s.is

-- a text may be cut where a suffix that is a text begins
pub suffix_boundary : (text rest : List ℕ) → IsUtf8 rest → IsSuffix text rest → IsCharBoundary text (length text - length rest)
suffix_boundary text rest utf8 s =
    let starts = IsCharBoundary-start rest utf8 in
    let same = suffix_byte text rest s in
    let less = s.shorter in
    (omega arith, λ within high. omega (arith, same, starts.1 (omega arith) (omega (arith, same))))

-- what is left after a run, after a byte, and after a character
pub run_suffix : (class : Class) (text word rest : List ℕ) → ◌≡◌ {A = List ℕ × List ℕ} (word, rest) (run (holds class) text) → IsSuffix text rest
run_suffix class text word rest e =
    subst (IsSuffix text) (sym (ap (λ (x : List ℕ × List ℕ). x.1) e)) (drop_suffix (prefix_len (holds class) text) text)

pub byte_suffix : (class : Class) (text : List ℕ) (byte : ℕ) (rest : List ℕ) → byte_of class text ≡ Some (byte, rest) → IsSuffix text rest
byte_suffix class text byte rest e = append_suffix text (byte ∷ []) rest ((byte_finder class).sound text byte rest e).whole

pub character_suffix : (text rest : List ℕ) → character_of text ≡ Ok (tt, rest) → IsSuffix text rest
character_suffix [] rest e = append_suffix [] [] rest (ap (λ (x : Unit {0} × List ℕ). x.1) (sym (left_same e)))
character_suffix (b ∷ text) rest e =
    let same : (run is_continuation text).1 ≡ rest = ap (λ (x : Unit {0} × List ℕ). x.1) (sym (left_same e)) in
    append_suffix (b ∷ text) (b ∷ (run is_continuation text).0) rest (ap (λ x. b ∷ x) (sym (take-append-drop (prefix_len is_continuation text) text) ∙ ap (λ x. (run is_continuation text).0 ++ x) same))

pub few_suffix : (n : ℕ) (text rest : List ℕ) → rest ≡ drop n text → IsSuffix text rest
few_suffix n text rest e = subst (IsSuffix text) (sym e) (drop_suffix n text)
