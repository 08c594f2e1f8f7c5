-- Which conflicts have a clash, by what is compared.
use Rattle.std.proofs.Common.{◌≡◌, ◌==◌, ◌&&◌, ◌↔◌, ℕ, Bool, IsTrue, List, Contains, subst, sym}
use Rattle.std.specs.Bool.{Decides}
use Rattle.std.specs.List.{IsAnyAnswer}
use Rattle.std.proofs.lemmas.Bool.Decides.{Decides-eqb}
use Rattle.std.proofs.lemmas.List.Elements.{Decides-contains, contains_decides}
use Rattle.cfgrammar.specs.Numbered.{Numbered}
use Rattle.lr_conflicts.specs.Clashes.{IsIn, ShiftsBy, accepts, next, reduce, shift}
use Rattle.lr_conflicts.specs.Conflicts.{items_of}
use Rattle.lr_conflicts.specs.Tables.{IsShiftedBy}
use Rattle.lr_conflicts.specs.Tables as tables
use Rattle.lr_conflicts.specs.declared.Conflict.{Conflict}
use Rattle.lr_conflicts.specs.declared.clashes.Clash.{Clash}
use Rattle.lr_states.specs.Automaton.{Automaton}
use Rattle.lr_states.specs.declared.Item.{Item}
use Rattle.lr_states.proofs.Added.{items_Decide}
use Rattle.lr_conflicts.specs.Inner.Clashing.{IsReductionIn}

pub numbers_contain : (xs : List ℕ) (p : ℕ) (r : Bool) → IsAnyAnswer (λ y t. (y == p) ≡ t) xs r → Decides r (Contains xs p)
numbers_contain xs p r h = Decides-contains xs p r (contains_decides (λ a b. a == b) Decides-eqb xs p r h)

pub items_contain : (xs : List Item) (item : Item) (r : Bool) → IsAnyAnswer (λ y t. ((y.production == item.production) && (y.read == item.read)) ≡ t) xs r
    → Decides r (Contains xs item)
items_contain xs item r h = Decides-contains xs item r (contains_decides (λ a b. (a.production == b.production) && (a.read == b.read)) items_Decide xs item r h)

module _ (g : Numbered) (x : Automaton) (conflict : Conflict) where
  -- an item of the conflict's state by which its token is shifted
  pub shifts_by : (item : Item) → Contains (items_of x conflict.state) item → IsShiftedBy g item conflict.token → ShiftsBy g x conflict item
  shifts_by item among (tables.next at) = next among at
  shifts_by item among (tables.accepts is end) = accepts (subst (Contains (items_of x conflict.state)) is among) end is

  pub shifted_by : (item : Item) → ShiftsBy g x conflict item → Contains (items_of x conflict.state) item × IsShiftedBy g item conflict.token
  shifted_by item (next among at) = (among, tables.next at)
  shifted_by item (accepts among end is) = (subst (Contains (items_of x conflict.state)) (sym is) among, tables.accepts is end)

  module _ (clash : Clash) where
    pub reduction_in : clash.token ≡ conflict.token → (IsTrue clash.shifts → ⊥) → IsReductionIn g conflict clash ↔ IsIn g x conflict clash
    reduction_in same off = (
      (λ w. reduce w.first w.rest w.is same off w.production w.other),
      (λ has. elim has [
        | shift shifted same shifts among by ↦ absurd (off shifts)
        | reduce first rest is same none among other ↦ record { first = first; rest = rest; is = is; production = among; other = other }
      ]),
    )
