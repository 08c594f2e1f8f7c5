-- `name_of` and `text_of` of a section find its names and its texts, and nothing else; each leaves a shorter rest.
use Rattle.std.proofs.Common.{◌≡◌, ℕ, true, List, [], ◌∷◌, ◌++◌, length, Option, Some, None, option_map, refl, ap, ◌∙◌, arith, length-append, codes}
use Rattle.std.specs.Option.{option_and_then}
use Rattle.std.proofs.lemmas.Bool.Decides.{nat_tests}
use Rattle.std.proofs.lemmas.Option.{some_pair_parts}
use Rattle.constructs.specs.WordKind.{IsFinder, IsShorter}
use Rattle.constructs.specs.Pieces.{strip}
use Rattle.constructs.proofs.PiecesLemmas.{strip_sound, strip_only}
use Rattle.cfgwords.specs.declared.bytes.ByteClass.TheVariants as bytes
use Rattle.cfgwords.specs.declared.passed.Passed.TheVariants.{InQuotes}
use Rattle.cfgwords.specs.Passed.{stops, passed}
use Rattle.cfgwords.specs.SectionWords.{IsName, name_of, IsText, text_of, closed}
use Rattle.cfgwords.proofs.NameFinders.{run_from_finder, run_from_shorter}
use Rattle.cfgwords.proofs.PassedLemmas.{IsStopped, passed_stopped, passed_only}

pub name_finder : IsFinder IsName name_of
name_finder = run_from_finder bytes.Letter bytes.IdentifierStart

pub name_shorter : IsShorter name_of
name_shorter = run_from_shorter bytes.Letter bytes.IdentifierStart (λ b h. grind (arith, nat_tests))

-- a text stops before its closing quote
quote_stops : (rest : List ℕ) → stops InQuotes (34 ∷ rest) ≡ true
quote_stops [] = refl
quote_stops (c ∷ rest) = refl

-- what follows the opening quote
opened_sound : (opened : List ℕ) (inside left : List ℕ) → IsStopped InQuotes opened (inside, left) → (o : Option (List ℕ)) → strip (codes "\"") left ≡ o
    → (word rest : List ℕ) → option_map {U = List ℕ × List ℕ} (λ rest. (inside, rest)) o ≡ Some (word, rest) → IsText (34 ∷ opened) word rest
opened_sound opened inside left s None is word rest e = cc
opened_sound opened inside left s (Some after) is word rest e =
    let same = some_pair_parts _ _ _ _ e in
    let whole : left ≡ 34 ∷ after = strip_sound (codes "\"") left after is in
    rw (← same.0, ← same.1) (record { inside = s.passes; whole = ap (λ x. 34 ∷ x) (s.whole ∙ ap (λ x. inside ++ x) whole) })

text_sound : (text : List ℕ) (o : Option (List ℕ)) → strip (codes "\"") text ≡ o
    → (word rest : List ℕ) → option_and_then (λ opened. closed (passed InQuotes opened)) o ≡ Some (word, rest) → IsText text word rest
text_sound text None is word rest e = cc
text_sound text (Some opened) is word rest e =
    let whole : text ≡ 34 ∷ opened = strip_sound (codes "\"") text opened is in
    rw whole (opened_sound opened (passed InQuotes opened).0 (passed InQuotes opened).1 (passed_stopped InQuotes opened)
    (strip (codes "\"") (passed InQuotes opened).1) refl word rest e)

pub text_finder : IsFinder IsText text_of
unfolding text_of
text_finder = record {
  sound = λ text word rest e. text_sound text (strip (codes "\"") text) refl word rest e;
  only = λ text word rest is.
      ap (option_and_then (λ opened. closed (passed InQuotes opened))) (strip_only (codes "\"") text (word ++ 34 ∷ rest) is.whole)
      ∙ ap closed (passed_only InQuotes word (34 ∷ rest) is.inside (quote_stops rest));
}

pub text_shorter : IsShorter text_of
text_shorter = record {
  less = λ text word rest e. let is = text_finder.sound text word rest e in omega (arith, ap length is.whole, length-append word (34 ∷ rest));
}
