-- `name_of` and `identifier_of` find the names and the identifiers, and nothing else; each leaves a shorter rest.
use Rattle.std.proofs.Common.{◌≡◌, ℕ, ◌+◌, true, cond, List, [], ◌∷◌, length, Some, None, ap, subst, ◌∙◌, arith, length-append}
use Rattle.std.proofs.lemmas.Bool.Decides.{nat_tests}
use Rattle.std.proofs.lemmas.Option.{some_pair_parts}
use Rattle.lemmas.proofs.Options.{chosen}
use Rattle.constructs.specs.Pieces.{starts, IsRun, run}
use Rattle.constructs.proofs.PiecesLemmas.{IsRun-run, run_only, run_shorter}
use Rattle.constructs.specs.WordKind.{IsFinder, IsShorter}
use Rattle.cfgwords.specs.declared.bytes.ByteClass.{ByteClass}
use Rattle.cfgwords.specs.declared.bytes.ByteClass.TheVariants as bytes
use Rattle.cfgwords.specs.Bytes.{holds}
use Rattle.cfgwords.specs.FileWords.{IsRunFrom, IsName, IsIdentifier, run_from, name_of, identifier_of}

-- a longest run that begins with a byte of another class
pub run_from_finder : (first others : ByteClass) → IsFinder (IsRunFrom first others) (run_from first others)
unfolding run_from
run_from_finder first others = record {
  sound = λ text word rest e.
      let c = chosen (starts (holds first) text) (Some (run (holds others) text)) (word, rest) e in
      let same = some_pair_parts _ _ _ _ c.1 in
      record { begins = c.0; run = subst (λ x. IsRun (holds others) text x rest) same.0 (subst (IsRun (holds others) text _) same.1 (IsRun-run (holds others) text)) };
  only = λ text word rest r.
      ap (λ t. cond t (Some (run (holds others) text)) None) r.begins ∙ ap Some (run_only (holds others) text word rest r.run);
}

-- it leaves a shorter rest if the first byte is also one of the others
pub run_from_shorter : (first others : ByteClass) → ((b : ℕ) → holds first b ≡ true → holds others b ≡ true) → IsShorter (run_from first others)
unfolding run_from
run_from_shorter first others part = record {
  less = λ text word rest e.
      let c = chosen (starts (holds first) text) (Some (run (holds others) text)) (word, rest) e in
      let same = some_pair_parts _ _ _ _ c.1 in
      let less = run_shorter (holds others) text (begins text c.0) in omega (arith, ap length same.1);
}
  where
    begins : (text : List ℕ) → starts (holds first) text ≡ true → starts (holds others) text ≡ true
    begins [] e = e
    begins (b ∷ text) e = part b e

-- names
pub name_finder : IsFinder IsName name_of
name_finder = run_from_finder bytes.NameStart bytes.NameByte

pub name_shorter : IsShorter name_of
name_shorter = run_from_shorter bytes.NameStart bytes.NameByte (λ b h. grind (arith, nat_tests))

-- identifiers
pub identifier_finder : IsFinder IsIdentifier identifier_of
identifier_finder = run_from_finder bytes.IdentifierStart bytes.IdentifierByte

pub identifier_shorter : IsShorter identifier_of
identifier_shorter = run_from_shorter bytes.IdentifierStart bytes.IdentifierByte (λ b h. grind (arith, nat_tests))

-- a run and its rest make up the text
run_from_length : (first others : ByteClass) (text word rest : List ℕ) → run_from first others text ≡ Some (word, rest)
    → length text ≡ length word + length rest
run_from_length first others text word rest e =
    ap length ((run_from_finder first others).sound text word rest e).run.whole ∙ length-append word rest

pub name_length : (text word rest : List ℕ) → name_of text ≡ Some (word, rest) → length text ≡ length word + length rest
name_length = run_from_length bytes.NameStart bytes.NameByte

pub identifier_length : (text word rest : List ℕ) → identifier_of text ≡ Some (word, rest) → length text ≡ length word + length rest
identifier_length = run_from_length bytes.IdentifierStart bytes.IdentifierByte
