-- The programs of Runs find exactly what its relations say, and leave no longer rests.
use Rattle.std.proofs.Common.{◌≡◌, ℕ, ◌≤◌, true, cond, List, [], ◌∷◌, length, min, Some, None, Result, Ok, Err, refl, ap, subst, ◌∙◌, arith, length-drop}
use Rattle.std.specs.List.{prefix_len}
use Rattle.std.proofs.lemmas.Option.{some_pair_parts}
use Rattle.lemmas.proofs.Options.{chosen}
use Rattle.constructs.specs.Graph.{IsGraph}
use Rattle.constructs.specs.Pieces.{starts, IsRun, run, IsFirst, split_first}
use Rattle.constructs.specs.WordKind.{IsFinder, IsShorter}
use Rattle.constructs.proofs.Lengths.{left_same}
use Rattle.constructs.proofs.PiecesLemmas.{IsRun-run, run_only, run_shorter, run_no_longer as run_shrinks, split_first_sound, split_first_only, split_first_length}
use Rattle.bison_words.specs.declared.class.Class.{Class}
use Rattle.bison_words.specs.Bytes.{holds, is_ascii_of, is_continuation}
use Rattle.bison_words.specs.Runs.{Run, run_of, IsSome, some_of, IsByte, byte_of, few_of, Few, character_of, Character}

-- runs
run_only_one : (class : Class) (text : List ℕ) (r : Result (List ℕ × List ℕ) ⊥) → Run class text r → run_of class text ≡ r
run_only_one class text (Ok (word, rest)) is = ap Ok (run_only (holds class) text word rest is)
run_only_one class text (Err fault) is = absurd is

pub run_graph : (class : Class) → IsGraph (Run class) (run_of class)
run_graph class = record { sound = λ text. IsRun-run (holds class) text; only = run_only_one class }

pub run_no_longer : (class : Class) (text word rest : List ℕ) → run_of class text ≡ Ok (word, rest) → length rest ≤ length text
run_no_longer class text word rest e = omega (arith, run_shrinks (holds class) text, ap (λ (x : List ℕ × List ℕ). length x.1) (left_same e))

-- runs of at least one byte
pub some_finder : (class : Class) → IsFinder (IsSome class) (some_of class)
some_finder class = record {
  sound = λ text word rest e.
      let c = chosen (starts (holds class) text) (Some (run (holds class) text)) (word, rest) e in
      let same = some_pair_parts _ _ _ _ c.1 in
      record { begins = c.0; run = subst (λ x. IsRun (holds class) text x rest) same.0 (subst (IsRun (holds class) text _) same.1 (IsRun-run (holds class) text)) };
  only = λ text word rest r.
      ap (λ t. cond t (Some (run (holds class) text)) None) r.begins ∙ ap Some (run_only (holds class) text word rest r.run);
}

pub some_shorter : (class : Class) → IsShorter (some_of class)
some_shorter class = record {
  less = λ text word rest e.
      let c = chosen (starts (holds class) text) (Some (run (holds class) text)) (word, rest) e in
      let same = some_pair_parts _ _ _ _ c.1 in
      let less = run_shorter (holds class) text c.0 in omega (arith, ap length same.1);
}

-- single bytes
byte_sound : (class : Class) (text : List ℕ) (byte : ℕ) (rest : List ℕ) → byte_of class text ≡ Some (byte, rest) → IsByte class text byte rest
byte_sound class [] byte rest e = cc
byte_sound class (b ∷ text) byte rest e =
    let c = chosen (is_ascii_of class b) (Some (b, text)) (byte, rest) e in
    let same = some_pair_parts _ _ _ _ c.1 in
    record { whole = cc (same.0, same.1); is_of = subst (λ b. is_ascii_of class b ≡ true) same.0 c.0 }

byte_only : (class : Class) (text : List ℕ) (byte : ℕ) (rest : List ℕ) → IsByte class text byte rest → byte_of class text ≡ Some (byte, rest)
byte_only class text byte rest is = ap (byte_of class) is.whole ∙ ap (λ t. cond t (Some (byte, rest)) None) is.is_of

pub byte_finder : (class : Class) → IsFinder (IsByte class) (byte_of class)
byte_finder class = record { sound = byte_sound class; only = byte_only class }

pub byte_shorter : (class : Class) → IsShorter (byte_of class)
byte_shorter class = record { less = λ text byte rest e. omega (arith, ap length (byte_sound class text byte rest e).whole) }

-- what precedes a needle
pub first_finder : (needle : List ℕ) → IsFinder (IsFirst needle) (split_first needle)
first_finder needle = record { sound = split_first_sound needle; only = split_first_only needle }

pub first_shorter : (b : ℕ) (needle : List ℕ) → IsShorter (split_first (b ∷ needle))
first_shorter b needle = record { less = λ text body rest e. omega (arith, split_first_length (b ∷ needle) text body rest e) }

-- a few bytes, and characters
pub few_graph : (class : Class) (most : ℕ) → IsGraph (Few class most) (few_of class most)
few_graph class most = record { sound = λ text. refl; only = λ text r e. e }

pub few_no_longer : (class : Class) (most : ℕ) (text word rest : List ℕ) → few_of class most text ≡ Ok (word, rest) → length rest ≤ length text
few_no_longer class most text word rest e =
    omega (arith, length-drop (min most (prefix_len (holds class) text)) text, ap (λ (x : List ℕ × List ℕ). length x.1) (left_same e))

pub character_graph : IsGraph Character character_of
character_graph = record { sound = λ text. refl; only = λ text r e. e }

pub character_no_longer : (text : List ℕ) (u : Unit {0}) (rest : List ℕ) → character_of text ≡ Ok (u, rest) → length rest ≤ length text
character_no_longer [] u rest e = omega (arith, ap (λ (x : Unit {0} × List ℕ). length x.1) (left_same e))
character_no_longer (b ∷ text) u rest e = omega (arith, run_shrinks is_continuation text, ap (λ (x : Unit {0} × List ℕ). length x.1) (left_same e))
