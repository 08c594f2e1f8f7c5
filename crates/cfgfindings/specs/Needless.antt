-- Symbols that `%expect-unused` names although they are used.
use Rattle.std.specs.Prelude.{◌≡◌, ℕ, List, [], ◌∷◌, ◌++◌, codes, Option, None, Some, option_map, position, slice_get, bytes_eq}
use Rattle.cfgrammar.specs.Accessors.{has_token_name}
use Rattle.cfgrammar.specs.Grammar.{HasProduction, Sym, Rule, Token}
use Rattle.cfgrammar.specs.Numbered.{Numbered, core}
use Rattle.cfgrammar.specs.Syntax.{Symbol, RuleSymbol, TokenSymbol}
use Rattle.finding_kinds.specs.declared.finding_kind.FindingKind.TheVariants.{NeedlessExpectUnused}
use Rattle.cfgfindings.specs.Shown.{ShownFinding}
use Rattle.cfgfindings.specs.Useless.{IsReachable}

-- the symbol of the grammar with this name
abbrev pub symbol_named : Numbered → Symbol → Option Sym
symbol_named g (RuleSymbol word) = option_map Rule (position (λ rule. bytes_eq word.name rule.name) g.rules)
symbol_named g (TokenSymbol word) = option_map Token (position (has_token_name word.name) g.tokens)

-- the start rule reaches the symbol of the grammar with this name
pub record IsUsedSymbol (g : Numbered) (symbol : Symbol) : Type 0 where
  pub numbered : Sym
  pub named : symbol_named g symbol ≡ Some numbered
  pub reachable : IsReachable (HasProduction (core g)) numbered

-- that the symbol is used
abbrev pub needless : Symbol → ShownFinding
needless (RuleSymbol word) = record {
  kind = NeedlessExpectUnused;
  spans = word.span ∷ [];
  text = codes "Needless %expect-unused: rule '" ++ (word.name ++ codes "' is used");
  hint = None;
}
needless (TokenSymbol word) = record {
  kind = NeedlessExpectUnused;
  spans = word.span ∷ [];
  text = codes "Needless %expect-unused: token '" ++ (word.name ++ codes "' is used");
  hint = None;
}

-- the n-th of these symbols is used
pub record IsNeedless (symbols : List Symbol) (g : Numbered) (n : ℕ) (symbol : Symbol) : Type 0 where
  pub given : slice_get symbols n ≡ Some symbol
  pub used : IsUsedSymbol g symbol

abbrev pub ReportsUsedSymbol : List Symbol → Numbered → ℕ → Option ShownFinding → Type 0
ReportsUsedSymbol symbols g n (Some finding) = (symbol : Symbol) × IsNeedless symbols g n symbol × (finding ≡ needless symbol)
ReportsUsedSymbol symbols g n None = (symbol : Symbol) → IsNeedless symbols g n symbol → ⊥
