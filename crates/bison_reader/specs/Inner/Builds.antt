-- What a step of the reader does, given what reading gives from there.
use Rattle.std.specs.Prelude.{◌≡◌, ℕ, ◌-◌, List, [], ◌∷◌, ◌++◌, length, map, Option, Some, None, Result}
use Rattle.constructs.specs.Construct.{Construct}
use Rattle.constructs.specs.Leaves.{Gives, ValueOf, Leaves}
use Rattle.constructs.specs.Steps as steps
use Rattle.constructs.specs.Steps.{ReaderKind}
use Rattle.bison_reader.specs.declared.group.Group.{Group}
use Rattle.bison_reader.specs.declared.reader.Reader.{Reader}
use Rattle.bison_reader.specs.declared.reader.Stop.{Stop}
use Rattle.bison_reader.specs.declared.reader.Stop.TheVariants as stops
use Rattle.bison_reader.specs.declared.sort.Sort.{Sort}
use Rattle.bison_reader.specs.FileGrammar.{numbers}
use Rattle.bison_reader.specs.Here.{is_here}
use Rattle.bison_reader.specs.Items.{Item, item_view}
use Rattle.constructs.specs.Next.{next}

abbrev pub fault_of : Stop → Option (Unit {0})
fault_of stops.OutOfMemory = None
fault_of stops.Unexpected = Some tt

-- the numbers of the words that are left
abbrev pub rest_of : Reader → List ℕ
rest_of reader = numbers reader.next (length reader.sorts.now - reader.next)

abbrev pub items_read : Reader → List Item
items_read reader = map item_view reader.items.items

-- a reader of words: it notes items
abbrev pub word_reader : ReaderKind Reader (List Sort) Stop (List Item) Item (Unit {0})
word_reader = record {
  fixed = λ reader. reader.sorts.now;
  rest = rest_of;
  made = items_read;
  add = λ items item. items ++ item ∷ [];
  fault = fault_of;
}

-- the reader has noted these items
abbrev pub Grows : Reader → Reader → List Item → Type 0
Grows = steps.Grows word_reader

-- What a step returned, converted by view, is what reading the construct gives, and the reader has noted the items that were read, unless
-- memory ran out.
abbrev pub Builds : {l : Leaves} {G : Gives} {X : Type 0} → (X → ValueOf G) → Reader → Reader → Result X Stop → Construct Item (Unit {0}) l G → Type 0
Builds = steps.Builds word_reader

-- why the construct stopped
abbrev pub Fails : {l : Leaves} {G : Gives} → Reader → Reader → Stop → Construct Item (Unit {0}) l G → Type 0
Fails = steps.Fails word_reader

-- the reader has passed the next word, if it is of the group, and otherwise is as it was
abbrev pub IsTaken : Group → Reader → Reader → Option ℕ → Type 0
IsTaken group old new (Some word) = (next (is_here old.sorts.now group) (rest_of old) ≡ Some (word, rest_of new)) × (new.sorts ≡ old.sorts) × (new.items ≡ old.items)
IsTaken group old new None = (next (is_here old.sorts.now group) (rest_of old) ≡ None) × (new ≡ old)
