-- The loop over what is between quotes.
use Rattle.std.proofs.Common.{◌≡◌, ℕ, ◌<◌, Bool, List, [], ◌∷◌, length, Option, Some, None, Ok, refl, ap, subst, ◌∙◌}
use Rattle.std.proofs.lemmas.List.Sums.{fold-append}
use Rattle.constructs.proofs.Steps.{Gathers, gathers_start, gathers_on, many_done, returns_then, turn_shorter}
use Rattle.bison_words.specs.declared.scanner.Scanner.{Scanner}
use Rattle.bison_words.specs.Quotes.{with_part, parts_of, quoted_part, quoted}
use Rattle.bison_words.specs.Inner.Builds.{Builds, Passed, scanner_kind}
use Rattle.bison_words.proofs.Loops.{passed_on}

module _ (close : List ℕ) where
  -- the loop so far
  pub record Quotes (start now : Scanner) (parts : Option (ℕ × Bool)) : Type 0 where
    pub gathers : Gathers scanner_kind (λ len. quoted_part len close) start now
    pub same : parts_of gathers.values ≡ parts
    pub passed : Passed start now

  pub quotes_start : (start : Scanner) → Passed start start → Quotes start start None
  unfolding gathers_start
  quotes_start start passed = record { gathers = gathers_start start; same = refl; passed = passed }

  module _ (start now next : Scanner) (parts o : Option (ℕ × Bool)) (so_far : Quotes start now parts) (builds : Builds (λ x. x) now next (Ok o) (quoted_part (length now.text.now) close)) where
    pub quotes_smaller : (part : ℕ × Bool) → o ≡ Some part → length next.rest.now < length now.rest.now
    quotes_smaller part is = turn_shorter scanner_kind (λ len. quoted_part len close) (λ x. x) now next o part builds is

    pub quotes_on : (part : ℕ × Bool) → o ≡ Some part → Passed now next → Quotes start next (with_part parts part)
    unfolding gathers_on
    quotes_on part is passed = record {
      gathers = gathers_on so_far.gathers next (λ x. x) o builds part is;
      same = fold-append with_part None so_far.gathers.values (part ∷ []) ∙ ap (λ parts. with_part parts part) so_far.same;
      passed = passed_on start now next so_far.passed passed;
    }

    pub quotes_done : o ≡ None → Builds (λ x. x) start next (Ok parts) (quoted (length start.text.now) close)
    unfolding quoted
    quotes_done is =
        subst (λ parts. Builds (λ x. x) start next (Ok parts) (quoted (length start.text.now) close)) so_far.same
        (returns_then scanner_kind parts_of start next _ (λ (x : Unit {0}). so_far.gathers.values) (Ok tt)
        (many_done so_far.gathers next (λ x. x) o builds (λ (x : Unit {0}). so_far.gathers.values) tt refl is))
