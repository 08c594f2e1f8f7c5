-- Where the words and faults among the items are.
use Rattle.std.proofs.Common.{◌≡◌, ℕ, ◌≤◌, Bool, true, false, cond, not, List, [], ◌∷◌, length, All, refl, sym, subst, arith}
use Rattle.std.specs.Prelude.{filter_map}
use Rattle.std.specs.Str.{IsUtf8}
use Rattle.std.proofs.lemmas.List.Elements.{All-nil, All-cons, All-weaker}
use Rattle.constructs.specs.Construct.{computes}
use Rattle.cfgwords.specs.TextSpans.{IsPiece}
use Rattle.bison_words.specs.declared.words.WordFault.{WordFault}
use Rattle.bison_words.specs.declared.words.Words.{Words as CodeWords}
use Rattle.bison_words.specs.Words.{Word, Item, WordRead, FaultRead, EpilogueRead, word_in, fault_in, IsWords}
use Rattle.bison_words.specs.TextWords.{text_words}
use Rattle.bison_words.specs.WordSpans.{IsWordAt, is_fault, without_faults, AreInOrder, AreInText}
use Rattle.bison_words.proofs.Leads.{AreItemsAt}
use Rattle.bison_words.proofs.TextWordSpans.{items_at}

-- words that come after an offset, in order
record AreAfter (done : ℕ) (words : List Word) : Type 0 where
  after : All (λ (word : Word). done ≤ word.span.start) words
  order : AreInOrder words

module _ (whole : List ℕ) where
  words_at : (done : ℕ) (items : List Item) → AreItemsAt whole done items → All (IsWordAt whole) (filter_map word_in items)
  words_at done [] p = All-nil (IsWordAt whole)
  words_at done (WordRead word ∷ items) p = All-cons (IsWordAt whole) word (filter_map word_in items) p.0.0 (words_at _ items p.1)
  words_at done (FaultRead fault ∷ items) p = words_at done items p.1
  words_at done (EpilogueRead text ∷ items) p = words_at done items p.1

  faults_at : (done : ℕ) (items : List Item) → AreItemsAt whole done items → All (λ (fault : WordFault). IsPiece whole fault.span) (filter_map fault_in items)
  faults_at done [] p = All-nil (λ (fault : WordFault). IsPiece whole fault.span)
  faults_at done (WordRead word ∷ items) p = faults_at _ items p.1
  faults_at done (FaultRead fault ∷ items) p = All-cons (λ (fault : WordFault). IsPiece whole fault.span) fault (filter_map fault_in items) p.0 (faults_at done items p.1)
  faults_at done (EpilogueRead text ∷ items) p = faults_at done items p.1

  order_at : (done : ℕ) (items : List Item) → AreItemsAt whole done items → AreAfter done (without_faults (filter_map word_in items))
  order_at done [] p = record { after = All-nil (λ (word : Word). done ≤ word.span.start); order = tt }
  order_at done (WordRead word ∷ items) p = go (is_fault word.lexeme) p.0.1 (order_at _ items p.1)
    where
      go : (fault : Bool) → (fault ≡ false → done ≤ word.span.start) → AreAfter (cond fault done word.span.end) (without_faults (filter_map word_in items))
          → AreAfter done (cond (not fault) (word ∷ without_faults (filter_map word_in items)) (without_faults (filter_map word_in items)))
      go true starts further = further
      go false starts further =
          let first : done ≤ word.span.start = starts refl in
          let ordered = p.0.0.piece.ordered in
          record {
            after = All-cons (λ (word : Word). done ≤ word.span.start) word (without_faults (filter_map word_in items)) first
                (All-weaker (λ (later : Word). word.span.end ≤ later.span.start) (λ (later : Word). done ≤ later.span.start) (λ later h. omega (arith, h, first, ordered))
                (without_faults (filter_map word_in items)) further.after);
            order = (further.after, further.order);
          }
  order_at done (FaultRead fault ∷ items) p = order_at done items p.1
  order_at done (EpilogueRead text ∷ items) p = order_at done items p.1

-- what the items of a text say of its words
pub words_in_text : (text : List ℕ) → IsUtf8 text → (words : CodeWords) → IsWords (computes (text_words (length text)) text).items words → AreInText text words
words_in_text text utf8 words is =
    let items = (computes (text_words (length text)) text).items in
    let each : AreItemsAt text 0 items = items_at text utf8 in
    record {
      words = subst (All (IsWordAt text)) (sym is.words_are) (words_at text 0 items each);
      faults = subst (All (λ (fault : WordFault). IsPiece text fault.span)) (sym is.faults_are) (faults_at text 0 items each);
      order = subst (λ words. AreInOrder (without_faults words)) (sym is.words_are) (order_at text 0 items each).order;
    }
