-- What is known of rules while the sums of a group are computed: the results of those in groups with lower numbers.
use Rattle.std.specs.Prelude.{◌≡◌, ℕ, nat_lt, nat_le, if◌then◌else◌, ◌&&◌, Bool, List, Option, Some, None, Result, Ok, Err, slice_index_or}
use Rattle.derivation.specs.Grammar.{Sym, Rule, Token}
use Rattle.derivation.specs.declared.errors.CostError.{CostError}
use Rattle.derivation.specs.declared.errors.CostError.TheVariants.{NoSentence, CostTooLarge}
use Rattle.cfggreatest.specs.GreatestCosts.{Means}
use Rattle.cfggreatest.specs.declared.sums.Grows.{Grows}

-- the result of a rule, by the numbers of the rules' groups, if that of its group is lower than this one
abbrev pub known_below : List ℕ → ℕ → List (Result (Option ℕ) CostError) → ℕ → Option (Result (Option ℕ) CostError)
known_below numbers number results r = if nat_lt (slice_index_or numbers r number) number then Some (slice_index_or results r (Err NoSentence)) else None

-- the results are true
abbrev pub AreTrue : (ℕ → List Sym → Type 0) → (ℕ → ℕ) → (ℕ → Option (Result (Option ℕ) CostError)) → Type 0
AreTrue P cost known = (r : ℕ) (result : Result (Option ℕ) CostError) → known r ≡ Some result → Means P cost r result

-- what a result adds to the sum of a production: its cost, cut down to 65536
abbrev pub read_result : Result (Option ℕ) CostError → Result (Option ℕ) Grows
read_result (Ok None) = Err (record {})
read_result (Ok (Some c)) = Ok (Some c)
read_result (Err e) = Ok (Some 65536)

-- what a rule adds: nothing, if it is in the group
abbrev pub read_known : Option (Result (Option ℕ) CostError) → Result (Option ℕ) Grows
read_known None = Ok None
read_known (Some result) = read_result result

abbrev pub read_symbol : (ℕ → ℕ) → (ℕ → Option (Result (Option ℕ) CostError)) → Sym → Result (Option ℕ) Grows
read_symbol cost known (Rule r) = read_known (known r)
read_symbol cost known (Token t) = Ok (Some (cost t))

-- what a rule costs, if rules of the group cost k, and `large` is what this rule costs if that is too large
abbrev pub known_cost : ℕ → ℕ → Option (Result (Option ℕ) CostError) → ℕ
known_cost k large None = k
known_cost k large (Some (Ok None)) = 0
known_cost k large (Some (Ok (Some c))) = c
known_cost k large (Some (Err e)) = large

-- the result for rules of a group: `top` is the greatest sum of a production, cut down, and `twice` says whether a production contains two
-- of the rules
abbrev pub group_result : ℕ → Bool → Result (Option ℕ) CostError
group_result top twice = if twice && nat_lt 0 top then Ok None else (if nat_le top 65535 then Ok (Some top) else Err CostTooLarge)
