-- What a search for a side of an example finds.
use Rattle.std.specs.Prelude.{◌⊎◌, ℕ, Bool, false, true, List, Option, None, Some, IsTrue, length, map}
use Rattle.cfgindex.specs.declared.idxnewtype.Symbol.{Symbol}
use Rattle.cfgrammar.specs.Grammar.{Sym}
use Rattle.cfgrammar.specs.Numbered.{core}
use Rattle.cfgrammar.specs.NumberedSymbols.{sym_of}
use Rattle.lr_conflicts.specs.declared.clashes.Clash.{Clash}
use Rattle.lr_states.specs.Viable.{IsUsed}
use Rattle.lr_states.specs.declared.Item.{Item}
use Rattle.lr_conflicts.specs.declared.examples.Side.{Side}
use Rattle.lr_conflicts.specs.declared.examples.finder.Finder.{Finder}
use Rattle.lr_conflicts.specs.declared.examples.nodes.ItemAt.{ItemAt}
use Rattle.lr_conflicts.specs.declared.examples.roads.Road.TheVariants as roads
use Rattle.lr_conflicts.specs.Inner.Tables.{AreReady, along, step_of}
use Rattle.lr_conflicts.specs.Inner.Ways.{IsFound, Setting}

abbrev pub item_at_place : ℕ → Item → Bool → ItemAt
item_at_place q item followed = record { place = q; item = item; followed = followed }

module _ (f : Finder) where
  abbrev pub IsFinderReady : Type 0
  IsFinderReady = AreReady (core f.grammar.now) f.firsts.now f.used.now

  -- by these steps from place to place
  abbrev pub setting_by : (ℕ → Sym → Option ℕ) → Setting
  setting_by step = record { grammar = core f.grammar.now; Used = IsUsed (core f.grammar.now); step = step; token = f.conflict.now.token }

  abbrev pub FindsAt : (ℕ → Sym → Option ℕ) → ItemAt → Option Side → Type 0
  FindsAt step = IsFound (setting_by step)

  -- in the conflict's state, with the token after the item's production
  abbrev pub FindsOnStates : Item → Option Side → Type 0
  FindsOnStates item = FindsAt (step_of (roads.States f.states)) (item_at_place f.conflict.now.state item true)

  -- with this prefix
  abbrev pub FindsOnPrefix : List (Symbol ℕ) → Item → Bool → Option Side → Type 0
  FindsOnPrefix list item followed = FindsAt (along (map (sym_of (λ s. s)) list)) (item_at_place (length list) item followed)

  -- with this prefix, or in the conflict's state
  abbrev pub FindsEither : List (Symbol ℕ) → Item → Option Side → Type 0
  FindsEither list item None = FindsOnStates item None
  FindsEither list item (Some side) = FindsOnPrefix list item true (Some side) ⊎ FindsOnStates item (Some side)

  -- the other side of a clash
  pub record FindsOther (clash : Clash) (list : List (Symbol ℕ)) (found : Option Side) : Type 0 where
    pub shifted : IsTrue clash.shifts → FindsOnPrefix list clash.other false found
    pub reduced : (IsTrue clash.shifts → ⊥) → FindsEither list clash.other found
