-- Words of a file, each where it is required. A text is the numbers of the words that are left.
use Rattle.std.specs.Prelude.{ℕ, ◌+◌, Bool, true, false, List, [], ◌∷◌, length, get_or}
use Rattle.constructs.specs.Leaves.{Gives, One, OneOrEnd, Leaves, Less, NoMore}
use Rattle.constructs.specs.Construct.{Construct, again, choice, emits, ends, fails, gives, here, then, repeat, word_or}
use Rattle.constructs.specs.WordKind.{WordKind}
use Rattle.bison_reader.specs.declared.group.Group.{Group}
use Rattle.bison_reader.specs.declared.group.Group.TheVariants as groups
use Rattle.bison_reader.specs.declared.item.Expected.{Expected}
use Rattle.bison_reader.specs.declared.sort.Sort.{Sort}
use Rattle.bison_reader.specs.declared.sort.Sort.TheVariants as sorts
use Rattle.bison_reader.specs.Groups.{belongs}
use Rattle.bison_reader.specs.Items.{Item, Unexpected}
use Rattle.constructs.specs.Next.{IsNext, next}
use Rattle.constructs.proofs.NextFinder.{next_finder, next_shorter}

-- A fault is an item as well, and reading goes on elsewhere. So what stops a construct says nothing more.
abbrev pub Strict : Type 0 → Type 1
Strict A = Construct Item (Unit {0}) Less (One A)

abbrev pub Lax : Type 0 → Type 1
Lax A = Construct Item (Unit {0}) NoMore (One A)

abbrev pub Turn : Type 0 → Type 1
Turn A = Construct Item (Unit {0}) Less (OneOrEnd A)

abbrev pub next_kind : (List ℕ → Bool) → WordKind ℕ
next_kind test = record { Is = IsNext test; find = next test; finds = next_finder test; shortens = next_shorter test }

-- nothing is read
abbrev pub nothing : Lax (Unit {0})
nothing = gives tt

-- a turn after which its repetition continues
abbrev pub continues : Construct Item (Unit {0}) NoMore (OneOrEnd (Unit {0}))
continues = again tt

-- words are the sorts of all words
module _ (words : List Sort) where
  -- the sort of the word with this number
  abbrev pub sort_of : ℕ → Sort
  sort_of word = get_or words word sorts.End

  -- whether these two sorts begin with a colon, or are a name in brackets and a colon
  abbrev pub begin_with_colon : Sort → Sort → Bool
  begin_with_colon sorts.Colon second = true
  begin_with_colon sorts.Name sorts.Colon = true
  begin_with_colon _ _ = false

  abbrev pub colon_follows : ℕ → Bool
  colon_follows word = begin_with_colon (sort_of (word + 1)) (sort_of (word + 2))

  -- whether a word is of the group
  abbrev pub is_of : Group → ℕ → Bool
  is_of group word = belongs group (sort_of word) (colon_follows word)

  -- the number of the next word; at the end, how many there are
  abbrev pub next_word : List ℕ → ℕ
  next_word [] = length words
  next_word (word ∷ text) = word

  -- whether the next word is
  abbrev pub is_here : Group → List ℕ → Bool
  is_here group [] = false
  is_here group (word ∷ text) = is_of group word

  -- what a word of the group is followed by, or d if the next word is none
  abbrev pub word_here_or : {l m : Leaves} {G : Gives} → Group → (ℕ → Construct Item (Unit {0}) l G) → Construct Item (Unit {0}) m G → Construct Item (Unit {0}) m G
  word_here_or group c d = word_or (next_kind (is_here group)) (λ text word rest. word) c d

  -- a word of the group, if the next word is one
  unfoldable pub optional : Group → Lax (Unit {0})
  optional group = word_here_or group (λ word. gives tt) (gives tt)

  -- a word of the group, if the next word is one
  unfoldable pub word_turn : Group → Turn (Unit {0})
  word_turn group = word_here_or group (λ word. continues) ends

  -- words of the group, as many as follow each other
  unfoldable pub words_of : Group → Lax (Unit {0})
  words_of group = repeat (word_turn group)

  -- the next word can't be here; of what is no word there is a fault already
  unfoldable pub noted : Expected → Lax (Unit {0})
  noted expected = here (λ text. choice (is_here groups.Fault) nothing (emits (Unexpected (next_word text) expected)))

  abbrev pub unexpected : {G : Gives} → Expected → Construct Item (Unit {0}) Less G
  unexpected expected = then (noted expected) (λ _. fails (λ _. tt))

  -- a word of the group, which must be here
  unfoldable pub needed : Group → Expected → Strict ℕ
  needed group expected = word_here_or group gives (unexpected expected)
