-- A reading of a text: of its section, and of the file after that. The items that count as read, and what stopped the reading, if anything
-- did.
use Rattle.std.specs.Prelude.{◌≡◌, ℕ, false, List, [], length, Option, Some, option_map, Result, Ok, Err}
use Rattle.constructs.specs.Construct.{Says}
use Rattle.constructs.specs.Read.{Read, stop_of}
use Rattle.cfgbase.specs.declared.span.Span.{Span}
use Rattle.cfgwords.specs.declared.fault.Fault.{Fault}
use Rattle.cfgitems.specs.Items.{Item}
use Rattle.cfgkinds.specs.declared.kind.YaccKind.{YaccKind}
use Rattle.cfgerrors.specs.HeaderErrors.{ShownError}
use Rattle.cfgsection.specs.SectionGrammar.{Entry, Fault as SectionFault}
use Rattle.cfgsection.specs.SectionReads.{IsSection, section_answer}
use Rattle.cfgreader.specs.FileGrammar.{file}

-- what stops a reading: the errors of the section, or a fault of the file
pub data Stop : Type 0 where
  InSection : List (ShownError Span) → Stop
  InFile : Fault → Stop

-- The rest of a text of len bytes is a file of this kind up to stop, and these are the items read on the way.
pub record ReadsFile (kind : YaccKind) (len : ℕ) (rest : List ℕ) (items : List Item) (stop : Option Stop) : Type 0 where
  pub read : Read Item Fault (Unit {0})
  pub says : Says (file kind len) rest read
  pub items_are : read.items ≡ items
  pub stop_is : option_map InFile (stop_of read.outcome) ≡ stop

-- the same of the whole text, if its section is such: after a section with errors nothing is read
abbrev pub ReadsAfter : YaccKind → ℕ → Result (List Entry × List ℕ) (List (ShownError Span)) → List Item → Option Stop → Type 0
ReadsAfter kind len (Err errors) items stop = (items ≡ []) × (stop ≡ Some (InSection errors))
ReadsAfter kind len (Ok (entries, rest)) items stop = ReadsFile kind len rest items stop

-- The text has a section or none, and after that a file of this kind, up to stop.
pub record Reads (kind : YaccKind) (text : List ℕ) (items : List Item) (stop : Option Stop) : Type 0 where
  pub entries : List Entry
  pub end : Result (List ℕ) SectionFault
  pub section : IsSection false text entries end
  pub after : ReadsAfter kind (length text) (section_answer entries end) items stop

-- Exactly one pair of items and stop is a reading of the text.
pub record HasOneReading (kind : YaccKind) (text : List ℕ) : Type 0 where
  pub items : List Item
  pub stop : Option Stop
  pub reads : Reads kind text items stop
  pub only : (xs : List Item) (s : Option Stop) → Reads kind text xs s → (xs ≡ items) × (s ≡ stop)
