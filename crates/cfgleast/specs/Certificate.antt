-- The certificate of least costs: a list of costs, and a list of choices of productions.
use Rattle.std.specs.Prelude.{◌≡◌, ℕ, ◌<◌, ◌≤◌, List, Option, Some, None, All, length, ◌⊎◌, IfSome, IsSomeAnd, slice_index_or}
use Rattle.cfgindex.specs.declared.idxnewtype.PIdx.{PIdx}
use Rattle.derivation.specs.Grammar.{Sym, Rule, Token, Grammar, Production}
use Rattle.cfgtables.specs.Openings.{nth_production}
use Rattle.derivation.specs.CostLists.{rule_cost, sum_by_lists}

-- if the rules in a production all have a cost, its sum is more than 65535, or its rule costs at most the sum
abbrev pub IsCovered : List ℕ → List (Option ℕ) → Production → Type 0
IsCovered costs least p = IfSome (sum_by_lists costs least p.symbols) (λ n. (65535 < n) ⊎ IsSomeAnd (rule_cost least p.rule) (λ c. c ≤ n))

-- a choice in numbers: a production, and a number that says when it was chosen
abbrev pub choice_of : {S : Type 0} → (S → ℕ) → Option (PIdx S × ℕ) → Option (ℕ × ℕ)
choice_of number None = None
choice_of number (Some choice) = Some (number choice.0.0, choice.1)

-- the choice of a rule in the list
abbrev pub rule_choice : List (Option (ℕ × ℕ)) → ℕ → Option (ℕ × ℕ)
rule_choice choices r = slice_index_or choices r None

-- the symbol is a rule that has a choice with a number less than n, or a token
abbrev pub IsChosenBelow : List (Option (ℕ × ℕ)) → ℕ → Sym → Type 0
IsChosenBelow choices n (Token t) = Unit {0}
IsChosenBelow choices n (Rule r) = IsSomeAnd (rule_choice choices r) (λ choice. choice.1 < n)

-- the claim that a rule has this cost by this production, which was chosen as `number` says
pub record Claim : Type 0 where
  pub rule : ℕ
  pub cost : ℕ
  pub production : ℕ
  pub number : ℕ

-- the claim that a rule has this cost by its choice
abbrev pub claim_of : ℕ → ℕ → ℕ × ℕ → Claim
claim_of r c choice = record { rule = r; cost = c; production = choice.0; number = choice.1 }

-- the production is one of the rule and has this cost, and its rules have choices with lesser numbers
pub record IsShown (g : Grammar) (costs : List ℕ) (least : List (Option ℕ)) (choices : List (Option (ℕ × ℕ))) (claim : Claim) : Type 0 where
  pub index : claim.production < length g.productions
  pub owner : (nth_production g claim.production).rule ≡ claim.rule
  pub sum : sum_by_lists costs least (nth_production g claim.production).symbols ≡ Some claim.cost
  pub below : All (IsChosenBelow choices claim.number) (nth_production g claim.production).symbols

-- a rule that has a cost has a choice that shows it
abbrev pub IsReached : Grammar → List ℕ → List (Option ℕ) → List (Option (ℕ × ℕ)) → ℕ → Type 0
IsReached g costs least choices r = IfSome (rule_cost least r) (λ c.
    IsSomeAnd (rule_choice choices r) (λ choice. IsShown g costs least choices (claim_of r c choice)))

-- a cost in the list fits its type
abbrev pub IsCoveredInRange : List ℕ → List (Option ℕ) → Production → Type 0
IsCoveredInRange costs least p = IsCovered costs least p × IfSome (rule_cost least p.rule) (λ c. c ≤ 65535)
