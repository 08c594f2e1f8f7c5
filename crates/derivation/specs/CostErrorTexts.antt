-- What is printed for a rule that has no cost.
use Rattle.std.specs.Prelude.{ℕ, List, codes}
use Rattle.derivation.specs.declared.errors.CostError.{CostError}
use Rattle.derivation.specs.declared.errors.CostError.TheVariants.{NoSentence, CostTooLarge}

-- the text of a cost error
abbrev pub cost_error_text : CostError → List ℕ
cost_error_text NoSentence = codes "the rule has no sentence"
cost_error_text CostTooLarge = codes "the cost is more than 65535"
