-- What a sentence generator stores and returns.
use Rattle.std.specs.Prelude.{◌≡◌, ◌↔◌, ℕ, ◌<◌, ◌≤◌, nat_le, if◌then◌else◌, List, Option, Some, None, Result, Ok, Err, IfOk, All, length, map, slice_index}
use Rattle.cfgindex.specs.declared.idxnewtype.PIdx.{PIdx}
use Rattle.derivation.specs.Grammar.{Sym, Token, Grammar, HasProduction}
use Rattle.derivation.specs.Derivation.{Derives}
use Rattle.derivation.specs.Sentence.{Sentence, cost_of}
use Rattle.derivation.specs.Productive.{Productive, Unproductive}
use Rattle.derivation.specs.Costs.{Least, Minimal}
use Rattle.cfgtables.specs.Openings.{nth_production}
use Rattle.derivation.specs.declared.errors.CostError.{CostError}
use Rattle.derivation.specs.declared.errors.CostError.TheVariants.{NoSentence, CostTooLarge}
use Rattle.derivation.specs.CostLists.{rule_cost}
use Rattle.cfgleast.specs.declared.settle.Settled.{Settled}
use Rattle.cfgleast.specs.Certificate.{choice_of, rule_choice}
use Rattle.cfgleast.specs.Settled.{AreSettled}

-- a grammar, what its tokens cost, and for each rule its least cost, cut down to 65536, and its chosen production
pub record CostTables : Type 0 where
  pub grammar : Grammar
  pub costs : List ℕ
  pub least : List (Option ℕ)
  pub choices : List (Option (ℕ × ℕ))

-- these, from the lists of the code
abbrev pub tables_of : {S : Type 0} → (S → ℕ) → Grammar → List ℕ → List (Option ℕ) → List (Option (PIdx S × ℕ)) → CostTables
tables_of number g costs least choices = record { grammar = g; costs = costs; least = least; choices = map (choice_of number) choices }

-- the same, from what settling gives
abbrev pub settled_tables : {S : Type 0} → (S → ℕ) → Grammar → List ℕ → Settled S → CostTables
settled_tables number g costs settled = tables_of number g costs settled.least.items settled.choices.items

-- what a token costs
abbrev pub token_cost : CostTables → ℕ → ℕ
token_cost x = slice_index x.costs

-- a cost up to 65535
abbrev pub up_to_limit : Option ℕ → Option ℕ
up_to_limit None = None
up_to_limit (Some c) = if nat_le c 65535 then Some c else None

-- a choice, if there is a cost
abbrev pub where_some : Option ℕ → Option (ℕ × ℕ) → Option (ℕ × ℕ)
where_some None choice = None
where_some (Some c) choice = choice

-- the least cost that is returned for a rule, if it is at most 65535
abbrev pub cost_answer : CostTables → ℕ → Option ℕ
cost_answer x r = up_to_limit (rule_cost x.least r)

-- the choice of the rule, if there is such a cost
abbrev pub choice_answer : CostTables → ℕ → Option (ℕ × ℕ)
choice_answer x r = where_some (cost_answer x r) (rule_choice x.choices r)

-- a rule has a sentence, and each costs more than 65535
abbrev pub IsTooLarge : (ℕ → List Sym → Type 0) → (ℕ → ℕ) → ℕ → Type 0
IsTooLarge P cost r = Productive P r × ((w : List ℕ) → Sentence P r w → 65535 < cost_of cost w)

-- the least cost of a rule, if it is at most 65535, or why there is none
pub record ReturnsLeast (P : ℕ → List Sym → Type 0) (cost : ℕ → ℕ) (r : ℕ) (result : Result ℕ CostError) : Type 0 where
  pub least : IfOk result (Least P cost r)
  pub found : (c : ℕ) → Least P cost r c → c ≤ 65535 → result ≡ Ok c
  pub none : (result ≡ Err NoSentence) ↔ Unproductive P r
  pub too_large : (result ≡ Err CostTooLarge) ↔ IsTooLarge P cost r

-- a production of a rule, whose symbols derive one of the rule's cheapest sentences
pub record IsLeastProduction (g : Grammar) (cost : ℕ → ℕ) (r p : ℕ) : Type 0 where
  pub index : p < length g.productions
  pub owner : (nth_production g p).rule ≡ r
  pub word : List ℕ
  pub derived : Derives (HasProduction g) (nth_production g p).symbols (map Token word)
  pub minimal : Minimal (HasProduction g) cost r word

-- what a generator stores
pub record IsGenerator (x : CostTables) (n : ℕ) : Type 0 where
  pub tokens : length x.costs ≡ x.grammar.tokens
  pub positive : All (λ c. 0 < c) x.costs
  pub settled : AreSettled x.grammar (token_cost x) x.least x.choices n

-- the tables that settling gives are those of a generator
abbrev pub IsGeneratorOf : {S : Type 0} → (S → ℕ) → Grammar → List ℕ → Settled S → Type 0
IsGeneratorOf number g costs settled = IsGenerator (settled_tables number g costs settled) settled.number
