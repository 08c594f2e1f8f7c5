-- Which syntaxes can be numbered, whatever they were read from.
use Rattle.std.specs.Prelude.{◌≡◌, ℕ, List, [], ◌∷◌, false, All}
use Rattle.cfgitems.specs.Building.{has_name}
use Rattle.cfgitems.specs.Syntax.{Syntax}
use Rattle.cfgast.specs.WellFormed.{IsWellFormed}
use Rattle.cfgnumbers.specs.Numbered.{start_name, implicit_name, implicit_start_name}
use Rattle.cfgnumbers.specs.Resolved.{IsResolved}

-- the names of the rules that a numbering may add
abbrev pub reserved_names : List (List ℕ)
reserved_names = start_name ∷ implicit_name ∷ implicit_start_name ∷ []

pub record IsNumberable (s : Syntax) : Type 0 where
  pub well_formed : IsWellFormed s
  -- no rule has a reserved name
  pub names_free : All (λ rule. has_name rule.0 reserved_names ≡ false) s.rules
  -- there is a start; it is a rule, and each symbol of a production is a rule or a token
  pub resolved : IsResolved s
