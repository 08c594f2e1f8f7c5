-- A choice for each rule that costs something: together they give lexicographically first minimal sentences.
use Rattle.std.specs.Prelude.{◌≡◌, ℕ, ◌<◌, ◌≤◌, List, [], ◌∷◌, Option, Some, None, All, length, IfSome}
use Rattle.std.specs.declared.cmp.Ordering.TheVariants.{Greater}
use Rattle.derivation.specs.Grammar.{Sym, Rule, Token, IsSymbolOf, HasProduction}
use Rattle.cfgtables.specs.Openings.{nth_production}
use Rattle.derivation.specs.CostLists.{rule_cost}
use Rattle.derivation.specs.Sums.{sum_of, symbol_cost}
use Rattle.cfgleast.specs.Certificate.{rule_choice}
use Rattle.cfgchoices.specs.Choices.{ChoicesGive}
use Rattle.cfgleast.specs.Generator.{CostTables, IsGenerator, token_cost}
use Rattle.cfgchoices.specs.Kinds.{IsOptimal}
use Rattle.cfgchoices.specs.FirstSentence.{lexicographic}

-- the symbol is a token, or a rule that has no choice or one with a number less than n
abbrev pub IsBelowIfChosen : List (Option (ℕ × ℕ)) → ℕ → Sym → Type 0
IsBelowIfChosen choices n (Token t) = Unit {0}
IsBelowIfChosen choices n (Rule r) = IfSome (rule_choice choices r) (λ choice. choice.1 < n)

-- the choice of rule q, which costs d, is production p, with number m: p costs d too, and the choices of the rules in it have lesser numbers
pub record IsChoiceOf (x : CostTables) (q d p m : ℕ) : Type 0 where
  pub choice : rule_choice x.choices q ≡ Some (p, m)
  pub index : p < length x.grammar.productions
  pub owner : (nth_production x.grammar p).rule ≡ q
  pub has : HasProduction x.grammar q (nth_production x.grammar p).symbols
  pub symbols : All (IsSymbolOf x.grammar) (nth_production x.grammar p).symbols
  pub sum : sum_of (symbol_cost (token_cost x) (rule_cost x.least)) (nth_production x.grammar p).symbols ≡ Some d
  pub below : All (IsBelowIfChosen x.choices m) (nth_production x.grammar p).symbols
  pub deep : m < x.grammar.rules

-- The grammar and the costs are a generator's, whose own choices (`settled`) may be others. Here rules that cost 1 to 65535 have choices,
-- and rules that cost 0 have none.
pub record AreChosen (x : CostTables) : Type 0 where
  pub settled : List (Option (ℕ × ℕ))
  pub number : ℕ
  pub generator : IsGenerator (record { grammar = x.grammar; costs = x.costs; least = x.least; choices = settled }) number
  pub listed : length x.choices ≡ x.grammar.rules
  pub free : (q : ℕ) → rule_cost x.least q ≡ Some 0 → rule_choice x.choices q ≡ None
  pub chosen : (q d : ℕ) → rule_cost x.least q ≡ Some d → 0 < d → d ≤ 65535 → (p : ℕ) × (m : ℕ) × IsChoiceOf x q d p m
  pub below : (q p m : ℕ) → rule_choice x.choices q ≡ Some (p, m) → All (IsBelowIfChosen x.choices m) (nth_production x.grammar p).symbols

-- no optimal production gives anything lexicographically less than its rule's choice
abbrev pub AreFirst : CostTables → Type 0
AreFirst x = (p : ℕ) → IsOptimal x p → (u v : List ℕ) → ChoicesGive x (Rule (nth_production x.grammar p).rule ∷ []) u
    → ChoicesGive x (nth_production x.grammar p).symbols v → lexicographic u v ≡ Greater → ⊥
