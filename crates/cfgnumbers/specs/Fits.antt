-- Which grammars an index type can count.
use Rattle.std.specs.Prelude.{ℕ, ◌+◌, ◌≤◌, ◌<◌, List, Option, Some, None, length, All}
use Rattle.cfgitems.specs.Syntax.{Syntax}
use Rattle.cfgnumbers.specs.Numbered.{Numbered, file_symbols, rules_before}

-- the final counts, including all that was added, are at most max
pub record Fits (max : ℕ) (g : Numbered) : Type 0 where
  pub rules : length g.rules ≤ max
  pub tokens : length g.tokens ≤ max
  pub productions : length g.productions ≤ max
  pub symbols : All (λ production. length production.symbols ≤ max) g.productions

-- how many productions are added after those of the file
abbrev pub productions_after : Option (List (List ℕ)) → ℕ
productions_after None = 1
productions_after (Some names) = length names + 3

-- A file's rules, tokens and productions leave room for what is added, including the rules that follow tokens.
pub record LeavesRoom (max : ℕ) (implicit : Option (List (List ℕ))) (s : Syntax) : Type 0 where
  pub rules : rules_before implicit + length s.rules ≤ max
  pub tokens : length s.tokens < max
  pub productions : length s.productions + productions_after implicit ≤ max
  pub symbols : All (λ production. length (file_symbols implicit s production.symbols) ≤ max) s.productions
