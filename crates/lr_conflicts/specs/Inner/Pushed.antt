-- Clashes that were found so far.
use Rattle.std.specs.Prelude.{◌≡◌, ◌↔◌, ◌⊎◌, ℕ, List, ◌∷◌, Bool, true, false, Contains, IsTrue, map, not}
use Rattle.cfgrammar.specs.Numbered.{Numbered}
use Rattle.lr_states.specs.Automaton.{Automaton}
use Rattle.lr_states.specs.Viable.{item_at}
use Rattle.lr_states.specs.declared.Item.{Item}
use Rattle.lr_conflicts.specs.Clashes.{IsIn, ShiftsBy}
use Rattle.lr_conflicts.specs.Conflicts.{read_item}
use Rattle.lr_conflicts.specs.declared.Conflict.{Conflict}
use Rattle.lr_conflicts.specs.declared.clashes.Clash.{Clash}
use Rattle.lr_conflicts.specs.declared.clashes.Entry.{Entry}

abbrev pub clash_of : Entry → Clash
clash_of e = record { shifts = not e.reduces; production = e.production; other = item_at e.other e.read; token = e.token }

-- the clashes that were found are there too
abbrev pub AddsClashes : (Clash → Type 0) → List Entry → List Entry → Type 0
AddsClashes Found old new = (clash : Clash) → Contains (map clash_of new) clash ↔ (Contains (map clash_of old) clash ⊎ Found clash)

-- one of these productions against the item, at this token
pub record IsAgainst (shifts : Bool) (item : Item) (productions : List ℕ) (t : ℕ) (clash : Clash) : Type 0 where
  pub kind : clash.shifts ≡ shifts
  pub among : Contains productions clash.production
  pub other : clash.other ≡ item
  pub token : clash.token ≡ t

-- a production of the conflict against an item by which its token is shifted
pub record IsShiftIn (g : Numbered) (x : Automaton) (conflict : Conflict) (clash : Clash) : Type 0 where
  pub shift : IsTrue conflict.shifts
  pub item : Item
  pub by : ShiftsBy g x conflict item
  pub against : IsAgainst true item conflict.productions.items conflict.token clash

-- a production of the conflict against the first one
pub record IsReductionIn (g : Numbered) (conflict : Conflict) (clash : Clash) : Type 0 where
  pub first : ℕ
  pub rest : List ℕ
  pub split : conflict.productions.items ≡ first ∷ rest
  pub against : IsAgainst false (read_item g first) rest conflict.token clash

pub record IsInOne (g : Numbered) (x : Automaton) (conflicts : List Conflict) (clash : Clash) : Type 0 where
  pub conflict : Conflict
  pub among : Contains conflicts conflict
  pub is : IsIn g x conflict clash
