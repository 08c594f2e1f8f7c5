-- What the tables of the code show, as plain data. An index type shows the number that each of its values stores.
use Rattle.std.specs.Prelude.{ℕ, List, String, ◌∷◌, [], ◌++◌, map, Option, Some, option_map, string_bytes}
use Rattle.std.specs.Option.{option_map_or}
use Rattle.std.specs.declared.alloc.Global.{Global}
use Rattle.cfgindex.specs.declared.idxnewtype.PIdx.{PIdx}
use Rattle.cfgindex.specs.declared.idxnewtype.RIdx.{RIdx}
use Rattle.cfgindex.specs.declared.idxnewtype.Symbol.{Symbol}
use Rattle.cfgitems.specs.declared.settings.Settings.{Settings}
use Rattle.cfgitems.specs.Syntax.{Syntax}
use Rattle.cfgitems.specs.SyntaxView.{settings_view}
use Rattle.cfgast.specs.TreeView.{syntax}
use Rattle.cfgtables.specs.NumberedSymbols.{sym_of}
use Rattle.cfgnumbers.specs.Numbered.{Numbered, NumberedRule, NumberedToken, NumberedProduction, end_token}
use Rattle.cfgnumbers.specs.declared.numbering.Numbering.{Numbering}
use Rattle.cfgnumbers.specs.declared.rows.RuleRow.{RuleRow}
use Rattle.cfgnumbers.specs.declared.rows.ProductionRow.{ProductionRow}
use Rattle.cfgnumbers.specs.declared.rows.TokenRow.{TokenRow}

-- the names of the entries
abbrev pub names : {V : Type 0} → List (String Global × V) → List (List ℕ)
names entries = map (λ e. string_bytes e.0) entries

-- what a numbering uses: a syntax, and the names of its implicit tokens, if there are any
abbrev pub file_of : Numbering → Syntax
file_of numbering = syntax numbering.ast.now

abbrev pub implicit_in : Numbering → Option (List (List ℕ))
implicit_in numbering = option_map (λ table. names table.now.entries) numbering.implicit

abbrev pub rule_view : {S : Type 0} → (S → ℕ) → String Global × RuleRow S → NumberedRule
rule_view number entry = record {
  name = string_bytes entry.0;
  span = entry.1.span;
  productions = map (λ p. number p.0) entry.1.prods.items;
  action_type = option_map string_bytes entry.1.actiont;
}

-- a production consists of its rule, its symbols and its row
abbrev pub production_view : {S : Type 0} → (S → ℕ) → RIdx S × (List (Symbol S) × ProductionRow) → NumberedProduction
production_view number parts = record {
  rule = number parts.0.0;
  symbols = map (sym_of number) parts.1.0;
  span = parts.1.1.span;
  precedence = parts.1.1.precedence;
  action = option_map string_bytes parts.1.1.action;
  action_span = parts.1.1.action_span;
}

-- a token without a printed form prints its name
abbrev pub token_view : String Global × TokenRow → NumberedToken
token_view entry = record {
  name = Some (string_bytes entry.0);
  span = Some entry.1.span;
  precedence = entry.1.precedence;
  printed = Some (option_map_or string_bytes entry.1.printed (string_bytes entry.0));
  avoid_insert = entry.1.avoid_insert;
}

unfoldable pub tables : {S : Type 0} → (S → ℕ) → List (String Global × RuleRow S) → List NumberedProduction → List (String Global × TokenRow) → PIdx S → Option (RIdx S) → Settings → Numbered
tables number rules productions tokens start_production implicit_rule settings = record {
  rules = map (rule_view number) rules;
  tokens = map token_view tokens ++ end_token ∷ [];
  productions = productions;
  start_production = number start_production.0;
  implicit_rule = option_map (λ rule. number rule.0) implicit_rule;
  settings = settings_view settings;
}
