-- Constructs of a grammar, as data: how each is composed of others. `Says` defines the meaning of each, case by case; `computes` is the
-- plain slow program that reads it.
use Rattle.std.specs.Prelude.{ℕ, Bool, true, false, List, Option, Some, None}
use Rattle.constructs.specs.Read as read
use Rattle.constructs.specs.Read.{Read, Then, Recovers, Case, Choice, WordOr, Exactly, follow}
use Rattle.constructs.specs.Silent as silent
use Rattle.constructs.specs.Silent.{PieceKind, Silently}
use Rattle.constructs.specs.Turns as turns
use Rattle.constructs.specs.Turns.{Many}
use Rattle.constructs.specs.Leaves.{Gives, One, OneOrEnd, ValueOf, Leaves, Less, NoMore, either, both, preceded}
use Rattle.constructs.specs.WordKind.{WordKind}

pub data Construct (I F : Type 0) : Leaves → Gives → Type 1 where
  -- a value, and nothing read
  gives : {G : Gives} → ValueOf G → Construct I F NoMore G
  -- the end of a repetition
  ends : {A : Type 0} → Construct I F Less (OneOrEnd A)
  -- an item that counts as read from here on
  emits : I → Construct I F NoMore (One (Unit {0}))
  -- a fault, which stops the reading
  fails : {G : Gives} → (List ℕ → F) → Construct I F Less G
  -- a word of this kind and what its value is followed by; the second construct if there is no such word
  word_or : {W A : Type 0} {l m : Leaves} {G : Gives} → WordKind W → (List ℕ → W → List ℕ → A) → (A → Construct I F l G) → Construct I F m G → Construct I F m G
  -- a piece of this kind, in which nothing counts as read
  silently : {A : Type 0} → PieceKind F A → Construct I F NoMore (One A)
  -- sequence
  then : {l m : Leaves} {A : Type 0} {G : Gives} → Construct I F l (One A) → (A → Construct I F m G) → Construct I F (either l m) G
  -- the first; if a fault stops it, what it read counts, and the second reads the text again from where the first began
  recovers : {l m : Leaves} {G : Gives} → Construct I F l G → (F → Construct I F m G) → Construct I F (both l m) G
  -- the first after a word, the second if the text doesn't begin with the word
  case_of : {l m : Leaves} {G : Gives} (word : List ℕ) → Construct I F l G → Construct I F m G → Construct I F (both (preceded word l) m) G
  -- the first if the text passes the test, the second if it doesn't
  choice : {l m : Leaves} {G : Gives} → (List ℕ → Bool) → Construct I F l G → Construct I F m G → Construct I F (both l m) G
  -- what depends on the text from here on
  here : {l : Leaves} {G : Gives} → (List ℕ → Construct I F l G) → Construct I F l G
  -- repetition: one turn after another, up to the one that gives the end
  many : {A : Type 0} → Construct I F Less (OneOrEnd A) → Construct I F NoMore (One (List A))

-- sequence, as `do` blocks write it
abbrev pub ◌>>=◌ : {I F : Type 0} {l m : Leaves} {A : Type 0} {G : Gives} → Construct I F l (One A) → (A → Construct I F m G) → Construct I F (either l m) G
◌>>=◌ c d = then c d

abbrev pub ◌>>◌ : {I F : Type 0} {l m : Leaves} {A : Type 0} {G : Gives} → Construct I F l (One A) → Construct I F m G → Construct I F (either l m) G
◌>>◌ c d = then c (λ _. d)

-- a word that must be here
abbrev pub expect : {I F : Type 0} (word : List ℕ) → (List ℕ → F) → Construct I F (preceded word NoMore) (One (Unit {0}))
expect word fault = case_of word (gives tt) (fails fault)

-- repetition whose values don't matter
unfoldable pub repeat : {I F A : Type 0} → Construct I F Less (OneOrEnd A) → Construct I F NoMore (One (Unit {0}))
repeat c = then (many c) (λ _. gives tt)

-- a turn's value, after which its repetition continues
abbrev pub again : {I F A : Type 0} → A → Construct I F NoMore (OneOrEnd A)
again a = gives (Some a)

-- a turn, by whether the repetition continues
abbrev pub goes_on : Bool → Option (Unit {0})
goes_on true = Some tt
goes_on false = None

-- a turn if the text passes the test, and the end if it doesn't
unfoldable pub while_test : {I F A : Type 0} → (List ℕ → Bool) → Construct I F Less (One A) → Construct I F Less (OneOrEnd A)
while_test test c = choice test (then c again) ends

-- the meaning
abbrev pub Says : {I F : Type 0} {l : Leaves} {G : Gives} → Construct I F l G → List ℕ → Read I F (ValueOf G) → Type 0
Says (gives a) = Exactly (read.gives a)
Says ends = Exactly (read.gives None)
Says (emits item) = Exactly (read.emits item)
Says (fails fault) = Exactly (λ text. read.fails (fault text))
Says (word_or kind value c d) = WordOr kind.Is value (λ a. Says (c a)) (Says d)
Says (silently kind) = Silently kind.Is
Says (then c d) = Then (Says c) (λ a. Says (d a))
Says (recovers c d) = Recovers (Says c) (λ fault. Says (d fault))
Says (case_of word c d) = Case word (Says c) (Says d)
Says (choice test c d) = Choice test (Says c) (Says d)
Says (here c) = λ text. Says (c text) text
Says (many c) = Many (Says c)

-- the plain program
abbrev pub computes : {I F : Type 0} {l : Leaves} {G : Gives} → Construct I F l G → List ℕ → Read I F (ValueOf G)
computes (gives a) = read.gives a
computes ends = read.gives None
computes (emits item) = read.emits item
computes (fails fault) = λ text. read.fails (fault text)
computes (word_or kind value c d) = read.word_or kind.find value (λ a. computes (c a)) (computes d)
computes (silently kind) = silent.silently kind.reads
computes (then c d) = follow (computes c) (λ a. computes (d a))
computes (recovers c d) = read.recover (computes c) (λ fault. computes (d fault))
computes (case_of word c d) = read.case_of word (computes c) (computes d)
computes (choice test c d) = read.choose test (computes c) (computes d)
computes (here c) = λ text. computes (c text) text
computes (many c) = turns.many (computes c)
