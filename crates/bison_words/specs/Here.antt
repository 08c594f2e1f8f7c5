-- What is read here, as constructs. `Says` of a construct is its meaning. Nothing stops a reading: faults are items.
use Rattle.std.specs.Prelude.{ℕ, Bool, true, false, List}
use Rattle.std.specs.Option.{option_map_or}
use Rattle.constructs.specs.Pieces.{starts, strip}
use Rattle.constructs.specs.Leaves.{Gives, One, OneOrEnd, Leaves, Less, NoMore}
use Rattle.constructs.specs.Construct.{Construct, ◌>>◌, then, here, word_or, silently, gives, emits}
use Rattle.bison_words.specs.declared.class.Class.{Class}
use Rattle.bison_words.specs.declared.class.Class.TheVariants.{Any}
use Rattle.bison_words.specs.declared.words.WordFaultKind.{WordFaultKind}
use Rattle.bison_words.specs.Bytes as bytes
use Rattle.bison_words.specs.Words.{Item, WordRead, FaultRead, Lexeme, Fault, span_between, first_bytes}
use Rattle.bison_words.specs.WordKinds.{run_kind, some_kind, byte_kind, few_kind, character_kind, first_kind}

-- a construct that leaves a shorter rest, one that may leave the whole text, and a turn of a repetition: a value, or the end
abbrev pub Strict : Type 0 → Type 1
Strict A = Construct Item ⊥ Less (One A)

abbrev pub Lax : Type 0 → Type 1
Lax A = Construct Item ⊥ NoMore (One A)

abbrev pub Turn : Type 0 → Type 1
Turn A = Construct Item ⊥ Less (OneOrEnd A)

-- the end of a turn, before which something may have been read
abbrev pub TurnEnd : Type 0 → Type 1
TurnEnd A = Construct Item ⊥ NoMore (OneOrEnd A)

-- the text begins with the word
abbrev pub begins : List ℕ → List ℕ → Bool
begins word text = option_map_or (λ _. true) (strip word text) false

-- it begins with a byte of the class
abbrev pub starts_with : Class → List ℕ → Bool
starts_with class text = starts (bytes.holds class) text

-- a run of the class, which may be empty, as a value, or passed
abbrev pub run_here : Class → Lax (List ℕ)
run_here class = silently (run_kind class)

abbrev pub passes : Class → Lax (Unit {0})
passes class = then (run_here class) (λ _. gives tt)

-- what follows a run of the class, or one ASCII byte of it; the second construct if there is none
abbrev pub some_or : {l m : Leaves} {G : Gives} → Class → (List ℕ → Construct Item ⊥ l G) → Construct Item ⊥ m G → Construct Item ⊥ m G
some_or class c d = word_or (some_kind class) (λ text word rest. word) c d

abbrev pub byte_or : {l m : Leaves} {G : Gives} → Class → (ℕ → Construct Item ⊥ l G) → Construct Item ⊥ m G → Construct Item ⊥ m G
byte_or class c d = word_or (byte_kind class) (λ text byte rest. byte) c d

-- what follows the first needle, given what precedes that
abbrev pub first_or : {l m : Leaves} {G : Gives} → ℕ → List ℕ → (List ℕ → Construct Item ⊥ l G) → Construct Item ⊥ m G → Construct Item ⊥ m G
first_or b needle c d = word_or (first_kind b needle) (λ text body rest. body) c d

abbrev pub few_here : Class → ℕ → Lax (List ℕ)
few_here class most = silently (few_kind class most)

abbrev pub character_here : Lax (Unit {0})
character_here = silently character_kind

-- len is the whole text's length
module _ (len : ℕ) where
  -- a word, or a fault, from one offset to another, and up to here
  abbrev pub word_between : List ℕ → List ℕ → Lexeme → Lax (Unit {0})
  word_between start end lexeme = emits (WordRead (record { lexeme = lexeme; span = span_between len start end }))

  abbrev pub word_from : List ℕ → Lexeme → Lax (Unit {0})
  word_from start lexeme = here (λ rest. word_between start rest lexeme)

  abbrev pub fault_between : List ℕ → List ℕ → WordFaultKind → Lax (Unit {0})
  fault_between start end kind = emits (FaultRead (record { kind = kind; span = span_between len start end }))

  abbrev pub fault_from : List ℕ → WordFaultKind → Lax (Unit {0})
  fault_from start kind = here (λ rest. fault_between start rest kind)

  -- a fault at the first n bytes of what begins at start
  abbrev pub fault_first : List ℕ → ℕ → WordFaultKind → Lax (Unit {0})
  fault_first start n kind = emits (FaultRead (record { kind = kind; span = first_bytes len start n }))

  -- a fault in place of which there is no word
  abbrev pub odd_between : List ℕ → List ℕ → WordFaultKind → Lax (Unit {0})
  odd_between start end kind = do
    fault_between start end kind
    word_between start end Fault

  abbrev pub odd_from : List ℕ → WordFaultKind → Lax (Unit {0})
  odd_from start kind = here (λ rest. odd_between start rest kind)

  -- such a fault where what begins doesn't end: it takes the rest of the text
  unfoldable pub unended : List ℕ → WordFaultKind → Lax (Unit {0})
  unended start kind = do
    odd_from start kind
    passes Any
