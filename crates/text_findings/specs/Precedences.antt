-- Productions whose `%prec` names a token without a precedence. In files of most kinds that is an error.
use Rattle.std.specs.Prelude.{◌≡◌, ℕ, List, [], ◌∷◌, ◌++◌, codes, slice_get, Option, None, Some, if◌then◌else◌}
use Rattle.std.specs.Option.{option_and_then}
use Rattle.cfgrammar.specs.Building.{has_entry}
use Rattle.cfgrammar.specs.Syntax.{Production, Syntax}
use Rattle.finding_kinds.specs.declared.finding_kind.FindingKind.TheVariants.{UndefinedPrecedence}
use Rattle.text_findings.specs.Finding.{ShownFinding}
use Rattle.text_findings.specs.Named.{quoted}

-- that no declaration gives the token with this name a precedence, at a production
abbrev pub undefined_at : Production → List ℕ → ShownFinding
undefined_at production name = record {
  kind = UndefinedPrecedence;
  spans = production.span ∷ [];
  text = codes "Undefined precedence: no %left, %right, %nonassoc or %precedence names token " ++ quoted name;
  hint = None;
}

-- the finding about a production, if its `%prec` names such a token
abbrev pub undefined_precedence : Syntax → Production → Option ShownFinding
undefined_precedence s production = option_and_then
    (λ name. if has_entry name s.tables.precedences then None else Some (undefined_at production name)) production.precedence

-- the finding about the n-th production
abbrev pub ReportsUndefinedPrecedence : Syntax → ℕ → Option ShownFinding → Type 0
ReportsUndefinedPrecedence s n found = found ≡ option_and_then (undefined_precedence s) (slice_get s.productions n)
