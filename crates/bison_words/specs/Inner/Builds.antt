-- What a step of the scanner does, given what reading gives from there.
use Rattle.std.specs.Prelude.{◌≡◌, ℕ, ◌≤◌, List, [], ◌∷◌, ◌++◌, length, map, Option, Some, None, option_map, Result}
use Rattle.std.specs.declared.alloc.AllocError.{AllocError}
use Rattle.constructs.specs.Leaves.{Gives, ValueOf, Leaves}
use Rattle.constructs.specs.Construct.{Construct}
use Rattle.constructs.specs.Steps as steps
use Rattle.constructs.specs.Steps.{ReaderKind}
use Rattle.bison_words.specs.declared.scanner.Scanner.{Scanner}
use Rattle.bison_words.specs.declared.words.WordFault.{WordFault}
use Rattle.bison_words.specs.Words.{Word, Item, WordRead, FaultRead, EpilogueRead, word_view}

-- what was made of the items so far
pub record Made : Type 0 where
  pub words : List Word
  pub faults : List WordFault
  pub epilogue : Option (List ℕ)

abbrev pub add : Made → Item → Made
add made (WordRead word) = record { words = made.words ++ word ∷ []; faults = made.faults; epilogue = made.epilogue }
add made (FaultRead fault) = record { words = made.words; faults = made.faults ++ fault ∷ []; epilogue = made.epilogue }
add made (EpilogueRead text) = record { words = made.words; faults = made.faults; epilogue = Some text }

abbrev pub made_by : Scanner → Made
made_by scanner = record { words = map word_view scanner.words.items; faults = scanner.faults.items; epilogue = option_map (λ text. text.now) scanner.epilogue }

-- a scanner: no fault stops it, only running out of memory does
abbrev pub scanner_kind : ReaderKind Scanner ℕ AllocError Made Item ⊥
scanner_kind = record {
  fixed = λ scanner. length scanner.text.now;
  rest = λ scanner. scanner.rest.now;
  made = made_by;
  add = add;
  fault = λ _. None;
}

-- What a step returned, converted by view, is what reading the construct gives, and the lists have grown by the items that were read, unless
-- memory ran out.
abbrev pub Builds : {l : Leaves} {G : Gives} {X : Type 0} → (X → ValueOf G) → Scanner → Scanner → Result X AllocError → Construct Item ⊥ l G → Type 0
Builds = steps.Builds scanner_kind

-- the same text, and a rest that is no longer
abbrev pub Passed : Scanner → Scanner → Type 0
Passed old new = (length new.rest.now ≤ length old.rest.now) × (new.text ≡ old.text)

-- the same text, words and faults
abbrev pub Keeps : Scanner → Scanner → Type 0
Keeps old new = (new.text ≡ old.text) × (new.words ≡ old.words) × (new.faults ≡ old.faults) × (new.epilogue ≡ old.epilogue)

-- what is found here, and the rest after it
abbrev pub IsFoundHere : {X W : Type 0} → (X → W) → (List ℕ → Option (W × List ℕ)) → Scanner → Scanner → Option X → Type 0
IsFoundHere view find old new (Some x) = (find old.rest.now ≡ Some (view x, new.rest.now)) × Keeps old new × (length new.rest.now ≤ length old.rest.now)
IsFoundHere view find old new None = (find old.rest.now ≡ None) × (new ≡ old)
