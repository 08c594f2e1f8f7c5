-- Repetition: steps from text to text, until one ends.
use Rattle.std.specs.Prelude.{ℕ, zero, suc, List, [], ◌∷◌, ◌++◌, length, Option, Some, None, Result, Ok, Err}
use Rattle.constructs.specs.Read.{Read, gives}

-- What a step makes of a text: the end, or another step from the rest of the text. The function completes what that step gives.
pub data Turn (R : Type 0) : Type 0 where
  again : (R → R) → List ℕ → Turn R
  ends : R → Turn R

pub data Turns {R : Type 0} (Step : List ℕ → Turn R → Type 0) : List ℕ → R → Type 0 where
  last : {text : List ℕ} {r : R} → Step text (ends r) → Turns Step text r
  next : {text rest : List ℕ} {complete : R → R} {r : R}
      → Step text (again complete rest) → Turns Step rest r → Turns Step text (complete r)

-- the same as a function: at most n steps, which are enough if each leaves a shorter text
abbrev pub after : {R : Type 0} → (List ℕ → R) → Turn R → R
after go (again complete rest) = complete (go rest)
after go (ends r) = r

unfoldable pub turns : {R : Type 0} → (List ℕ → Turn R) → R → ℕ → List ℕ → R
turns step none zero text = none
turns step none (suc n) text = after (turns step none n) (step text)

abbrev pub all_turns : {R : Type 0} → (List ℕ → Turn R) → R → List ℕ → R
all_turns step none text = turns step none (suc (length text)) text

-- one more value, and the items that were read with it, before those that follow
abbrev pub with_value : {F A : Type 0} → A → Result (List A × List ℕ) F → Result (List A × List ℕ) F
with_value a (Ok (values, rest)) = Ok (a ∷ values, rest)
with_value a (Err fault) = Err fault

abbrev pub with_one : {I F A : Type 0} → List I → A → Read I F (List A) → Read I F (List A)
with_one items a r = record { items = items ++ r.items; outcome = with_value a r.outcome }

-- what a turn makes of what it read: the end if it gave no value, or if a fault stopped it
abbrev pub turn_outcome : {I F A : Type 0} → List I → Result (Option A × List ℕ) F → Turn (Read I F (List A))
turn_outcome items (Ok (Some a, rest)) = again (with_one items a) rest
turn_outcome items (Ok (None, rest)) = ends (record { items = items; outcome = Ok ([], rest) })
turn_outcome items (Err fault) = ends (record { items = items; outcome = Err fault })

abbrev pub turn_of : {I F A : Type 0} → Read I F (Option A) → Turn (Read I F (List A))
turn_of r = turn_outcome r.items r.outcome

-- one G
pub data OneOf {I F A : Type 0} (G : List ℕ → Read I F (Option A) → Type 0) (text : List ℕ) : Turn (Read I F (List A)) → Type 0 where
  one : (r : Read I F (Option A)) → G text r → OneOf G text (turn_of r)

-- repetition: one G after another, until one gives no value
abbrev pub Many : {I F A : Type 0} → (List ℕ → Read I F (Option A) → Type 0) → List ℕ → Read I F (List A) → Type 0
Many G = Turns (OneOf G)

unfoldable pub many : {I F A : Type 0} → (List ℕ → Read I F (Option A)) → List ℕ → Read I F (List A)
many g text = all_turns (λ text. turn_of (g text)) (gives [] []) text
