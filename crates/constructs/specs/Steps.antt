-- What a step of a reader's code does, given what reading gives from there.
use Rattle.std.specs.Prelude.{◌≡◌, ℕ, List, fold, Option, Some, None, Result, Ok, Err}
use Rattle.constructs.specs.Leaves.{Gives, ValueOf, Leaves}
use Rattle.constructs.specs.Read.{Read}
use Rattle.constructs.specs.Construct.{Construct, computes}

-- A kind of readers, by what is observed of it: what no step changes (the whole text's length, say), the rest of the text, what was made of
-- the items so far, what one more makes of it, and why a step stopped: a fault, or running out of memory, which is no fault.
pub record ReaderKind (Reader Fixed Stop Made Item Fault : Type 0) : Type 0 where
  pub fixed : Reader → Fixed
  pub rest : Reader → List ℕ
  pub made : Reader → Made
  pub add : Made → Item → Made
  pub fault : Stop → Option Fault

module _ {Reader Fixed Stop Made Item Fault : Type 0} (R : ReaderKind Reader Fixed Stop Made Item Fault) where
  -- what was made has grown by the items
  abbrev pub Grows : Reader → Reader → List Item → Type 0
  Grows old new items = R.made new ≡ fold R.add (R.made old) items

  -- what stopped a step is the fault that reading gave, unless memory ran out
  abbrev pub Stops : {A : Type 0} → Reader → Reader → Option Fault → Read Item Fault A → Type 0
  Stops old new None r = Unit {0}
  Stops old new (Some fault) r = (r.outcome ≡ Err fault) × Grows old new r.items

  -- what a step returned, converted by view, is what reading gave
  abbrev pub Returns : {A X : Type 0} → (X → A) → Reader → Reader → Result X Stop → Read Item Fault A → Type 0
  Returns view old new (Ok x) r = (r.outcome ≡ Ok (view x, R.rest new)) × (R.fixed new ≡ R.fixed old) × Grows old new r.items
  Returns view old new (Err e) r = Stops old new (R.fault e) r

  -- the same, if a construct was read
  abbrev pub Fails : {l : Leaves} {G : Gives} → Reader → Reader → Stop → Construct Item Fault l G → Type 0
  Fails old new e c = Stops old new (R.fault e) (computes c (R.rest old))

  abbrev pub Builds : {l : Leaves} {G : Gives} {X : Type 0} → (X → ValueOf G) → Reader → Reader → Result X Stop → Construct Item Fault l G → Type 0
  Builds view old new result c = Returns view old new result (computes c (R.rest old))
