-- What clashes in conflicts: a production that could be reduced, with an item by which the token could be shifted, or with the first
-- production that could be reduced there.
use Rattle.std.specs.Prelude.{◌≡◌, ◌↔◌, ◌⊎◌, ◌<◌, ◌+◌, ℕ, List, [], ◌∷◌, Contains, IsTrue, length}
use Rattle.cfgrammar.specs.Grammar.{Token}
use Rattle.cfgrammar.specs.Numbered.{Numbered, core}
use Rattle.lr_states.specs.Automaton.{Automaton}
use Rattle.lr_states.specs.Viable.{HasNext}
use Rattle.lr_states.specs.declared.Item.{Item}
use Rattle.lr_conflicts.specs.Conflicts.{items_of, read_item}
use Rattle.lr_conflicts.specs.declared.Conflict.{Conflict}
use Rattle.lr_conflicts.specs.declared.clashes.Clash.{Clash}

-- those about a shift first, then by the productions and items, and then by the tokens
abbrev pub IsBefore : Clash → Clash → Type 0
IsBefore a b = (IsTrue a.shifts × (IsTrue b.shifts → ⊥)) ⊎ ((IsTrue a.shifts ↔ IsTrue b.shifts) × ((a.production < b.production)
    ⊎ ((a.production ≡ b.production) × ((a.other.production < b.other.production) ⊎ ((a.other.production ≡ b.other.production)
    × ((a.other.read < b.other.read) ⊎ ((a.other.read ≡ b.other.read) × (a.token < b.token))))))))

abbrev pub AreSorted : List Clash → Type 0
AreSorted [] = Unit {0}
AreSorted (a ∷ rest) = ((b : Clash) → Contains rest b → IsBefore a b) × AreSorted rest

module _ (g : Numbered) (x : Automaton) where
  -- by this item the token could be shifted in the conflict's state
  pub data ShiftsBy (conflict : Conflict) (item : Item) : Type 0 where
    next : Contains (items_of x conflict.state) item → HasNext (core g) item (Token conflict.token) → ShiftsBy conflict item
    accepts : Contains (items_of x conflict.state) (read_item g g.start_production) → conflict.token + 1 ≡ length g.tokens
        → item ≡ read_item g g.start_production → ShiftsBy conflict item

  -- it is one of the conflict, at its token
  pub data IsIn (conflict : Conflict) (clash : Clash) : Type 0 where
    shift : IsTrue conflict.shifts → clash.token ≡ conflict.token → IsTrue clash.shifts → Contains conflict.productions.items clash.production
        → ShiftsBy conflict clash.other → IsIn conflict clash
    reduce : (first : ℕ) (rest : List ℕ) → conflict.productions.items ≡ first ∷ rest → clash.token ≡ conflict.token → (IsTrue clash.shifts → ⊥)
        → Contains rest clash.production → clash.other ≡ read_item g first → IsIn conflict clash

  -- exactly what clashes in these conflicts, each once and in order
  pub record AreClashes (conflicts : List Conflict) (clashes : List Clash) : Type 0 where
    pub each : (clash : Clash) → Contains clashes clash → (conflict : Conflict) × Contains conflicts conflict × IsIn conflict clash
    pub all : (conflict : Conflict) (clash : Clash) → Contains conflicts conflict → IsIn conflict clash → Contains clashes clash
    pub sorted : AreSorted clashes
