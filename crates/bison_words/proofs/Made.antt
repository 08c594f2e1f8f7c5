-- What was made of items is what the items say.
use Rattle.std.proofs.Common.{◌≡◌, ℕ, List, [], ◌∷◌, ◌++◌, length, fold, Option, Some, None, refl, sym, ap, ap₂, subst, ◌∙◌, append_assoc, append-nil}
use Rattle.std.specs.Prelude.{filter_map}
use Rattle.constructs.specs.Construct.{computes}
use Rattle.bison_words.specs.declared.scanner.Scanner.{Scanner}
use Rattle.bison_words.specs.declared.words.Words.{Words as CodeWords}
use Rattle.bison_words.specs.Words.{Item, WordRead, FaultRead, EpilogueRead, word_in, fault_in, epilogue_in, last_of, IsWords}
use Rattle.bison_words.specs.TextWords.{text_words}
use Rattle.bison_words.specs.Inner.Builds.{Made, add, made_by}

words_made : (items : List Item) (made : Made) → (fold add made items).words ≡ made.words ++ filter_map word_in items
words_made [] made = sym (append-nil made.words)
words_made (WordRead word ∷ items) made = words_made items (add made (WordRead word)) ∙ append_assoc made.words (word ∷ []) (filter_map word_in items)
words_made (FaultRead fault ∷ items) made = words_made items (add made (FaultRead fault))
words_made (EpilogueRead text ∷ items) made = words_made items (add made (EpilogueRead text))

faults_made : (items : List Item) (made : Made) → (fold add made items).faults ≡ made.faults ++ filter_map fault_in items
faults_made [] made = sym (append-nil made.faults)
faults_made (WordRead word ∷ items) made = faults_made items (add made (WordRead word))
faults_made (FaultRead fault ∷ items) made = faults_made items (add made (FaultRead fault)) ∙ append_assoc made.faults (fault ∷ []) (filter_map fault_in items)
faults_made (EpilogueRead text ∷ items) made = faults_made items (add made (EpilogueRead text))

-- the last of a list, or what there was before
abbrev or_before : Option (List ℕ) → Option (List ℕ) → Option (List ℕ)
or_before (Some text) before = Some text
or_before None before = before

last_same : (text : List ℕ) (texts : List (List ℕ)) (before later : Option (List ℕ)) → or_before (last_of (text ∷ texts)) before ≡ or_before (last_of (text ∷ texts)) later
last_same text [] before later = refl
last_same text (next ∷ texts) before later = last_same next texts before later

last_one : (text : List ℕ) (texts : List (List ℕ)) (before : Option (List ℕ)) → or_before (last_of texts) (Some text) ≡ or_before (last_of (text ∷ texts)) before
last_one text [] before = refl
last_one text (next ∷ texts) before = last_same next texts (Some text) before

epilogue_made : (items : List Item) (made : Made) → (fold add made items).epilogue ≡ or_before (last_of (filter_map epilogue_in items)) made.epilogue
epilogue_made [] made = refl
epilogue_made (WordRead word ∷ items) made = epilogue_made items (add made (WordRead word))
epilogue_made (FaultRead fault ∷ items) made = epilogue_made items (add made (FaultRead fault))
epilogue_made (EpilogueRead text ∷ items) made = epilogue_made items (add made (EpilogueRead text)) ∙ last_one text (filter_map epilogue_in items) made.epilogue

none_before : (o : Option (List ℕ)) → or_before o None ≡ o
none_before (Some text) = refl
none_before None = refl

-- what a scanner made of a whole text, having begun with nothing
pub text_read : (text : List ℕ) (old new : Scanner) (words : CodeWords) → old.text.now ≡ text → old.rest.now ≡ text
    → made_by old ≡ record { words = []; faults = []; epilogue = None }
    → made_by new ≡ fold add (made_by old) (computes (text_words (length old.text.now)) old.rest.now).items
    → words ≡ record { words = new.words; faults = new.faults; epilogue = new.epilogue }
    → IsWords (computes (text_words (length text)) text).items words
text_read text old new words whole rest began grown is =
    let items = (computes (text_words (length text)) text).items in
    let made : made_by new ≡ fold add (record { words = []; faults = []; epilogue = None }) items =
    grown ∙ ap₂ (λ m (t : List ℕ × List ℕ). fold add m (computes (text_words (length t.0)) t.1).items) began (ap₂ (λ x y. (x, y)) whole rest) in
    subst (IsWords items) (sym is) (record {
      words_are = ap (λ (m : Made). m.words) made ∙ words_made items _;
      faults_are = ap (λ (m : Made). m.faults) made ∙ faults_made items _;
      epilogue_is = ap (λ (m : Made). m.epilogue) made ∙ epilogue_made items _ ∙ none_before (last_of (filter_map epilogue_in items));
    })
