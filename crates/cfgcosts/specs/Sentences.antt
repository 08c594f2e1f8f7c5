-- The results for a rule's greatest cost and for its minimal sentences.
use Rattle.std.specs.Prelude.{◌≡◌, ◌↔◌, ℕ, ◌<◌, ◌≤◌, List, [], Option, Some, None, Result, Ok, Err, Contains, length, map, slice_index_or, Vec, codes}
use Rattle.std.specs.List.Sorted.{IsStrictlySortedBy}
use Rattle.std.specs.declared.alloc.Global.{Global}
use Rattle.cfgindex.specs.declared.idxnewtype.TIdx.{TIdx}
use Rattle.derivation.specs.Grammar.{Sym}
use Rattle.derivation.specs.Sentence.{cost_of}
use Rattle.derivation.specs.Costs.{Greatest, Minimal, Unbounded}
use Rattle.derivation.specs.Productive.{Unproductive}
use Rattle.cfgchoices.specs.FirstSentence.{lexicographic}
use Rattle.derivation.specs.declared.errors.CostError.{CostError}
use Rattle.cfgcosts.specs.declared.errors.SentenceError.{SentenceError}
use Rattle.cfgcosts.specs.declared.errors.SentenceError.TheVariants.{NoSentence, CostTooLarge, OutOfMemory}
use Rattle.derivation.specs.declared.errors.CostError.TheVariants as costs

-- the error for a sentence, if the cost is this error
abbrev pub sentence_error : CostError → SentenceError
sentence_error costs.NoSentence = NoSentence
sentence_error costs.CostTooLarge = CostTooLarge

-- the text of a sentence error
abbrev pub sentence_error_text : SentenceError → List ℕ
sentence_error_text NoSentence = codes "the rule has no sentence"
sentence_error_text CostTooLarge = codes "each sentence of the rule costs more than 65535"
sentence_error_text OutOfMemory = codes "out of memory"

-- the numbers of a word's tokens, and of a set of words
abbrev pub numbers_of : {S : Type 0} → (S → ℕ) → Vec (TIdx S) Global → List ℕ
numbers_of number word = map (λ t. number t.0) word.items

-- the greatest cost of a rule, if it is at most 65535; or that its costs are unbounded; or why there is neither
pub record ReturnsGreatest (P : ℕ → List Sym → Type 0) (cost : ℕ → ℕ) (r : ℕ) (answer : Result (Option ℕ) CostError) : Type 0 where
  pub none : (answer ≡ Err costs.NoSentence) ↔ Unproductive P r
  pub unbounded : (answer ≡ Ok None) ↔ Unbounded P cost r
  pub greatest : (c : ℕ) → (answer ≡ Ok (Some c)) ↔ (Greatest P cost r c × (c ≤ 65535))
  pub too_large : (answer ≡ Err costs.CostTooLarge) ↔ ((n : ℕ) × Greatest P cost r n × (65535 < n))

-- the cheapest sentences of a rule, if they cost at most 65535, each once, in lexicographic order
pub record ListsMinimal (P : ℕ → List Sym → Type 0) (cost : ℕ → ℕ) (r : ℕ) (sentences : List (List ℕ)) : Type 0 where
  pub all : (w : List ℕ) → Contains sentences w ↔ (Minimal P cost r w × (cost_of cost w ≤ 65535))
  pub order : IsStrictlySortedBy lexicographic sentences

-- for each of so many rules its cheapest sentences
pub record ListAllMinimal (P : ℕ → List Sym → Type 0) (cost : ℕ → ℕ) (rules : ℕ) (all : List (List (List ℕ))) : Type 0 where
  pub entries : length all ≡ rules
  pub each : (r : ℕ) → r < rules → ListsMinimal P cost r (slice_index_or all r [])
