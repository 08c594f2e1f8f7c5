-- Loops of the scanner over turns of a repetition.
use Rattle.std.proofs.Common.{◌≡◌, ℕ, ◌<◌, length, Option, Some, None, Ok, refl, ◌∙◌, arith}
use Rattle.constructs.specs.Leaves.{Less, OneOrEnd}
use Rattle.constructs.specs.Construct.{Construct, repeat}
use Rattle.constructs.proofs.Steps.{Gathers, gathers_start, gathers_on, repeat_done, turn_shorter}
use Rattle.bison_words.specs.declared.scanner.Scanner.{Scanner}
use Rattle.bison_words.specs.Words.{Item}
use Rattle.bison_words.specs.Inner.Builds.{Builds, Passed, scanner_kind}

pub passed_on : (old mid new : Scanner) → Passed old mid → Passed mid new → Passed old new
passed_on old mid new p q = (omega (arith, p.0, q.0), q.1 ∙ p.1)

-- a loop over turns, from start to now
pub record Reads {A : Type 0} (c : ℕ → Construct Item ⊥ Less (OneOrEnd A)) (start now : Scanner) : Type 0 where
  pub gathers : Gathers scanner_kind c start now
  pub passed : Passed start now

module _ {A : Type 0} (c : ℕ → Construct Item ⊥ Less (OneOrEnd A)) where
  pub reads_start : (start : Scanner) → Reads c start start
  reads_start start = record { gathers = gathers_start start; passed = (omega arith, refl) }

  module _ {X : Type 0} (view : X → Option A) (now next : Scanner) (x : X) (builds : Builds view now next (Ok x) (c (length now.text.now))) where
    -- one more turn,
    pub reads_smaller : (a : A) → view x ≡ Some a → length next.rest.now < length now.rest.now
    reads_smaller a is = turn_shorter scanner_kind c view now next x a builds is

    pub reads_on : (start : Scanner) → Reads c start now → Passed now next → (a : A) → view x ≡ Some a → Reads c start next
    reads_on start so_far passed a is = record {
      gathers = gathers_on so_far.gathers next view x builds a is;
      passed = passed_on start now next so_far.passed passed;
    }

    -- and the last one
    pub reads_done : (start : Scanner) → Reads c start now → view x ≡ None → Builds (λ x. x) start next (Ok tt) (repeat (c (length start.text.now)))
    reads_done start so_far is = repeat_done so_far.gathers next view x builds is
