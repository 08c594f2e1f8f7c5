-- The words of a text and the faults in them are pieces of it.
use Rattle.std.proofs.Common.{ℕ, List, [], ◌∷◌, All, filter_map}
use Rattle.std.specs.Prelude.{IfSome}
use Rattle.std.specs.Str.{IsUtf8}
use Rattle.std.proofs.lemmas.List.Elements.{All-nil, All-cons}
use Rattle.lemmas.proofs.Options.{All-filter_map}
use Rattle.cfgwords.specs.TextSpans.{IsPiece}
use Rattle.bison_words.specs.declared.words.WordFault.{WordFault}
use Rattle.bison_words.specs.Words.{Item, WordRead, FaultRead, EpilogueRead, word_in, fault_in}
use Rattle.bison_words.specs.WordSpans.{IsWordAt}
use Rattle.bison_words.proofs.Leads.{IsItemAt, AreItemsAt, done_after}
use Rattle.bison_words.proofs.TextWordSpans.{items_at}
use Rattle.bison_reader.specs.Sorts.{scanned, words_in}

module _ (text : List ℕ) where
  abbrev IsFaultAt : WordFault → Type 0
  IsFaultAt fault = IsPiece text fault.span

  each_item : (P : Item → Type 0) → ((done : ℕ) (item : Item) → IsItemAt text done item → P item) → (done : ℕ) (items : List Item) → AreItemsAt text done items
      → All P items
  each_item P says done [] at = All-nil P
  each_item P says done (item ∷ items) at = All-cons P item items (says done item at.0) (each_item P says (done_after done item) items at.1)

  word_at : (done : ℕ) (item : Item) → IsItemAt text done item → IfSome (word_in item) (IsWordAt text)
  word_at done (WordRead word) at = at.0
  word_at done (FaultRead fault) at = tt
  word_at done (EpilogueRead rest) at = tt

  fault_at : (done : ℕ) (item : Item) → IsItemAt text done item → IfSome (fault_in item) IsFaultAt
  fault_at done (WordRead word) at = tt
  fault_at done (FaultRead fault) at = at
  fault_at done (EpilogueRead rest) at = tt

module _ (text : List ℕ) (utf8 : IsUtf8 text) where
  pub words_at : All (IsWordAt text) (words_in text)
  words_at = All-filter_map (IsWordAt text) word_in (scanned text) (each_item text (λ item. IfSome (word_in item) (IsWordAt text)) (word_at text) 0 (scanned text) (items_at text utf8))

  pub faults_at : All (λ fault. IsPiece text fault.span) (filter_map fault_in (scanned text))
  faults_at = All-filter_map (IsFaultAt text) fault_in (scanned text)
      (each_item text (λ item. IfSome (fault_in item) (IsFaultAt text)) (fault_at text) 0 (scanned text) (items_at text utf8))
