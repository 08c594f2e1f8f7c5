-- The lines that print what the sentences of rules cost, where each token costs 1, and the sentences of least cost.
use Rattle.std.specs.Prelude.{◌≡◌, ℕ, ◌+◌, ◌<◌, List, [], ◌++◌, Option, Some, None, Result, Ok, Err, EachIndex, All, length, map, slice_index_or, codes}
use Rattle.std.specs.List.{concat}
use Rattle.std.specs.Fmt.{decimal}
use Rattle.cfgrammar.specs.Grammar.{Token, HasProduction}
use Rattle.cfgrammar.specs.Generator.{ReturnsLeast}
use Rattle.cfgrammar.specs.Sentences.{ReturnsGreatest, ListsMinimal}
use Rattle.cfgrammar.specs.CostError.{CostError}
use Rattle.cfgrammar.specs.CostError.TheVariants.{NoSentence, CostTooLarge}
use Rattle.cfgrammar.specs.Numbered.{Numbered, core}
use Rattle.cfgrammar.specs.Accessors.{rule_part, sym_text}

abbrev pub least_word : Result ℕ CostError → List ℕ
least_word (Ok c) = decimal c
least_word (Err NoSentence) = codes "none"
least_word (Err CostTooLarge) = codes "too large"

abbrev pub greatest_word : Result (Option ℕ) CostError → List ℕ
greatest_word (Ok None) = codes "unbounded"
greatest_word (Ok (Some c)) = decimal c
greatest_word (Err NoSentence) = codes "none"
greatest_word (Err CostTooLarge) = codes "too large"

-- `NAME: min LEAST max GREATEST`
abbrev pub cost_line : List ℕ → Result ℕ CostError → Result (Option ℕ) CostError → List ℕ
cost_line name least greatest =
    name ++ (codes ": min " ++ (least_word least ++ (codes " max " ++ (greatest_word greatest ++ codes "\n"))))

-- ` "NAME"`
abbrev pub token_text : Numbered → ℕ → List ℕ
token_text g t = sym_text g (Token t)

-- a dash, and the name of each token
abbrev pub sentence_line : Numbered → List ℕ → List ℕ
sentence_line g sentence = codes "-" ++ (concat (map (token_text g) sentence) ++ codes "\n")

-- the numbers of tokens that have a name
abbrev pub AreNamed : Numbered → List ℕ → Type 0
AreNamed g sentence = All (λ t. t + 1 < length g.tokens) sentence

-- the lines of a rule: its costs, and its sentences of least cost
pub record ReportsRule (g : Numbered) (cost : ℕ → ℕ) (r : ℕ) (lines : List ℕ) : Type 0 where
  pub name : List ℕ
  pub least : Result ℕ CostError
  pub greatest : Result (Option ℕ) CostError
  pub sentences : List (List ℕ)
  pub named : rule_part (λ rule. rule.name) g r ≡ Some name
  pub reports_least : ReturnsLeast (HasProduction (core g)) cost r least
  pub reports_greatest : ReturnsGreatest (HasProduction (core g)) cost r greatest
  pub reports_sentences : ListsMinimal (HasProduction (core g)) cost r sentences
  pub reported : lines ≡ cost_line name least greatest ++ concat (map (sentence_line g) sentences)

-- texts for the first `count` numbers, one after the other
pub record ReportsEach (Reports : ℕ → List ℕ → Type 0) (count : ℕ) (lines : List ℕ) : Type 0 where
  pub texts : List (List ℕ)
  pub counted : length texts ≡ count
  pub each : EachIndex texts (λ r. Reports r (slice_index_or texts r []))
  pub reported : lines ≡ concat texts

-- each token of the grammar costs 1
abbrev pub CostsOne : Numbered → (ℕ → ℕ) → Type 0
CostsOne g cost = (t : ℕ) → t < length g.tokens → cost t ≡ 1

-- the lines of a grammar's rules, in the order of their indices
abbrev pub AreSentenceLines : Numbered → List ℕ → Type 0
AreSentenceLines g lines = (cost : ℕ → ℕ) × CostsOne g cost × ReportsEach (ReportsRule g cost) (length g.rules) lines
