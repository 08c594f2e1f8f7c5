-- What reading a piece of a text gives, and how pieces follow each other.
--
-- A kind of piece is a relation between a text and what reading the piece at its start gives. Item is the type of the parts that count as
-- read, Fault that of what stops a reading.
use Rattle.std.specs.Prelude.{◌≡◌, ◌≢◌, ℕ, Bool, true, false, List, [], ◌∷◌, ◌++◌, Option, Some, None, Result, Ok, Err, if◌then◌else◌}
use Rattle.constructs.specs.Pieces.{strip}

-- the items that count as read, in order; then the piece's value and the rest, or what stopped the reading
pub record Read (Item Fault A : Type 0) : Type 0 where
  pub items : List Item
  pub outcome : Result (A × List ℕ) Fault

-- a value, and nothing read that counts
abbrev pub gives : {I F A : Type 0} → A → List ℕ → Read I F A
gives a rest = record { items = []; outcome = Ok (a, rest) }

-- an item that counts as read from here on
abbrev pub emits : {I F : Type 0} → I → List ℕ → Read I F (Unit {0})
emits item rest = record { items = item ∷ []; outcome = Ok (tt, rest) }

abbrev pub fails : {I F A : Type 0} → F → Read I F A
fails fault = record { items = []; outcome = Err fault }

-- r after earlier items
abbrev pub prefixed : {I F A : Type 0} → List I → Read I F A → Read I F A
prefixed items r = record { items = items ++ r.items; outcome = r.outcome }

-- the fault that stopped the reading, if one did
abbrev pub stop_of : {F A : Type 0} → Result (A × List ℕ) F → Option F
stop_of (Ok x) = None
stop_of (Err fault) = Some fault

-- what a function of the text gives
abbrev pub Exactly : {I F A : Type 0} → (List ℕ → Read I F A) → List ℕ → Read I F A → Type 0
Exactly f text r = f text ≡ r

-- sequence: G, and after it what H makes of its value
pub data Then {I F A B : Type 0} (G : List ℕ → Read I F A → Type 0) (H : A → List ℕ → Read I F B → Type 0) (text : List ℕ) : Read I F B → Type 0 where
  on : (items : List I) (a : A) (rest : List ℕ) (r : Read I F B)
      → G text (record { items = items; outcome = Ok (a, rest) }) → H a rest r → Then G H text (prefixed items r)
  off : (items : List I) (fault : F)
      → G text (record { items = items; outcome = Err fault }) → Then G H text (record { items = items; outcome = Err fault })

-- recovery: G, or if a fault stops it what H makes of the same text, after the items that G read
pub data Recovers {I F A : Type 0} (G : List ℕ → Read I F A → Type 0) (H : F → List ℕ → Read I F A → Type 0) (text : List ℕ) : Read I F A → Type 0 where
  whole : (items : List I) (a : A) (rest : List ℕ) → G text (record { items = items; outcome = Ok (a, rest) }) → Recovers G H text (record { items = items; outcome = Ok (a, rest) })
  stopped : (items : List I) (fault : F) (r : Read I F A)
      → G text (record { items = items; outcome = Err fault }) → H fault text r → Recovers G H text (prefixed items r)

-- choice by a word: G after it, H if the text doesn't begin with it
pub data Case {I F A : Type 0} (word : List ℕ) (G H : List ℕ → Read I F A → Type 0) (text : List ℕ) (r : Read I F A) : Type 0 where
  begins : (rest : List ℕ) → text ≡ word ++ rest → G rest r → Case word G H text r
  other : ((rest : List ℕ) → text ≢ word ++ rest) → H text r → Case word G H text r

-- choice by a test: G if the text passes, H if it doesn't
pub data Choice {I F A : Type 0} (test : List ℕ → Bool) (G H : List ℕ → Read I F A → Type 0) (text : List ℕ) (r : Read I F A) : Type 0 where
  where_true : test text ≡ true → G text r → Choice test G H text r
  where_false : test text ≡ false → H text r → Choice test G H text r

-- choice by a word that Is allows: after it what G makes of its value, H if there is none
pub data WordOr {I F W A B : Type 0} (Is : List ℕ → W → List ℕ → Type 0) (value : List ℕ → W → List ℕ → A)
    (G : A → List ℕ → Read I F B → Type 0) (H : List ℕ → Read I F B → Type 0) (text : List ℕ) (r : Read I F B) : Type 0 where
  found : (word : W) (rest : List ℕ) → Is text word rest → G (value text word rest) rest r → WordOr Is value G H text r
  missing : ((word : W) (rest : List ℕ) → Is text word rest → ⊥) → H text r → WordOr Is value G H text r

-- The same as functions: the plain slow program.

abbrev pub follow_outcome : {I F A B : Type 0} → List I → Result (A × List ℕ) F → (A → List ℕ → Read I F B) → Read I F B
follow_outcome items (Ok (a, rest)) h = prefixed items (h a rest)
follow_outcome items (Err fault) h = record { items = items; outcome = Err fault }

abbrev pub follow : {I F A B : Type 0} → (List ℕ → Read I F A) → (A → List ℕ → Read I F B) → List ℕ → Read I F B
follow g h text = follow_outcome (g text).items (g text).outcome h

abbrev pub recover_outcome : {I F A : Type 0} → List I → Result (A × List ℕ) F → (F → Read I F A) → Read I F A
recover_outcome items (Ok x) h = record { items = items; outcome = Ok x }
recover_outcome items (Err fault) h = prefixed items (h fault)

abbrev pub recover : {I F A : Type 0} → (List ℕ → Read I F A) → (F → List ℕ → Read I F A) → List ℕ → Read I F A
recover g h text = recover_outcome (g text).items (g text).outcome (λ fault. h fault text)

abbrev pub after_word : {I F A : Type 0} → (List ℕ → Read I F A) → Read I F A → Option (List ℕ) → Read I F A
after_word g otherwise (Some rest) = g rest
after_word g otherwise None = otherwise

abbrev pub case_of : {I F A : Type 0} → List ℕ → (List ℕ → Read I F A) → (List ℕ → Read I F A) → List ℕ → Read I F A
case_of word g h text = after_word g (h text) (strip word text)

abbrev pub choose : {I F A : Type 0} → (List ℕ → Bool) → (List ℕ → Read I F A) → (List ℕ → Read I F A) → List ℕ → Read I F A
choose test g h text = if test text then g text else h text

abbrev pub found_word : {I F W A B : Type 0} → (W → List ℕ → A) → (A → List ℕ → Read I F B) → Read I F B → Option (W × List ℕ) → Read I F B
found_word value g otherwise (Some (word, rest)) = g (value word rest) rest
found_word value g otherwise None = otherwise

abbrev pub word_or : {I F W A B : Type 0} → (List ℕ → Option (W × List ℕ)) → (List ℕ → W → List ℕ → A)
    → (A → List ℕ → Read I F B) → (List ℕ → Read I F B) → List ℕ → Read I F B
word_or find value g h text = found_word (value text) g (h text) (find text)
