-- The findings about conflicts.
use Rattle.std.specs.Prelude.{◌≡◌, ◌||◌, ℕ, zero, suc, ◌-◌, ◌^◌, Bool, not, List, [], ◌∷◌, ◌++◌, Option, None, Some, All, Contains, if◌then◌else◌, codes, count_by, is_some, length, map, min, nat_lt, sum}
use Rattle.std.specs.List.{filter}
use Rattle.cfgrammar.specs.Associativity.{Associativity}
use Rattle.cfgrammar.specs.Numbered.{Numbered, core}
use Rattle.cfgrammar.specs.Syntax.{Settings}
use Rattle.text_findings.specs.Finding.{ShownFinding}
use Rattle.lr_states.specs.Automaton.{AreGotos, Automaton}
use Rattle.lr_states.specs.Viable.{AreStates, IsUsed}
use Rattle.lr_conflicts.specs.declared.Conflict.{Conflict}
use Rattle.lr_conflicts.specs.declared.clashes.Clash.{Clash}
use Rattle.lr_conflicts.specs.Conflicts.{AreConflicts, ConflictTables}
use Rattle.lr_conflicts.specs.Clashes.{AreClashes, IsIn}
use Rattle.lr_conflicts.specs.Examples.{IsExample}
use Rattle.lr_conflicts.specs.declared.examples.Example.{Example}
use Rattle.bison_findings.specs.Shown.{clash_finding, example_text, unmet}

-- the same but for the token
pub record IsLike (a b : Clash) : Type 0 where
  pub shifts : b.shifts ≡ a.shifts
  pub production : b.production ≡ a.production
  pub other : b.other ≡ a.other

-- it doesn't begin with one like this
abbrev pub BeginsOther : Clash → List Clash → Type 0
BeginsOther a [] = Unit {0}
BeginsOther a (b ∷ rest) = IsLike a b → ⊥

-- how many findings have an example, since each takes a search
abbrev pub most_examples : ℕ
most_examples = 20

module _ (g : Numbered) (x : Automaton) (conflicts : List Conflict) where
  -- an example of the clash in one of the conflicts; no note where no example is left to give
  abbrev pub IsNote : ℕ → Clash → Option (List ℕ) → Type 0
  IsNote zero clash note = note ≡ None
  IsNote (suc left) clash note = (conflict : Conflict) × Contains conflicts conflict × IsIn g x conflict clash
      × (example : Example) × IsExample g x conflict clash example × (note ≡ Some (example_text g example))

  -- one finding for clashes in a row that are the same but for the token; the first findings, so many, have an example
  pub data AreGrouped : ℕ → List Clash → List ShownFinding → Type 0 where
    none : {left : ℕ} → AreGrouped left [] []
    group : {left : ℕ} (first : Clash) (same rest : List Clash) → All (IsLike first) same → BeginsOther first rest
        → (note : Option (List ℕ)) → IsNote left first note → {findings : List ShownFinding} → AreGrouped (left - 1) rest findings
        → AreGrouped left (first ∷ (same ++ rest)) (clash_finding g first (map (λ clash. clash.token) (first ∷ same)) note ∷ findings)

-- how many there are, as Bison counts them, as far as the program counts
abbrev pub shift_reduce_count : List Conflict → ℕ
shift_reduce_count conflicts = count_by (λ (conflict : Conflict). conflict.shifts) conflicts

abbrev pub reduce_reduce_count : List Conflict → ℕ
reduce_reduce_count conflicts = min (sum (map (λ (conflict : Conflict). length conflict.productions.items - 1) conflicts)) (2 ^ 64 - 1)

-- the expectations that these conflicts don't meet
abbrev pub all_unmet : Settings → List Conflict → List ShownFinding
all_unmet settings conflicts = unmet (codes "Shift/reduce conflicts: ") (shift_reduce_count conflicts) settings.expect
    ++ unmet (codes "Reduce/reduce conflicts: ") (reduce_reduce_count conflicts) settings.expect_reduce_reduce

-- Conflicts of a kind are listed unless so many of them are expected; and all are if one of the expectations isn't met.
abbrev pub is_listed : Settings → List ShownFinding → Clash → Bool
is_listed settings unmet clash = nat_lt 0 (length unmet) || not (is_some (if clash.shifts then settings.expect else settings.expect_reduce_reduce))

-- the expectations that aren't met, and then the conflicts
pub record AreConflictFindings (g : Numbered) (associativities : List Associativity) (settings : Settings) (reported : List ShownFinding) : Type 0 where
  pub x : ConflictTables
  pub states : AreStates (core g) (IsUsed (core g)) x.lookaheads.automaton.states
  pub gotos : AreGotos (core g) (IsUsed (core g)) x.lookaheads.automaton
  pub conflicts : AreConflicts g associativities x.lookaheads.automaton x.conflicts
  pub clashes : List Clash
  pub are_clashes : AreClashes g x.lookaheads.automaton x.conflicts clashes
  pub grouped : List ShownFinding
  pub are_grouped : AreGrouped g x.lookaheads.automaton x.conflicts most_examples (filter (is_listed settings (all_unmet settings x.conflicts)) clashes) grouped
  pub is : reported ≡ all_unmet settings x.conflicts ++ grouped
