-- Syntaxes in which every name refers to something that exists.
use Rattle.std.specs.Prelude.{◌≡◌, ℕ, List, Option, true, All, IfSome, Some, None}
use Rattle.cfgwords.specs.FileWords.{Word}
use Rattle.cfgitems.specs.Building.{has_name, has_rule}
use Rattle.cfgitems.specs.Syntax.{Syntax, Production}
use Rattle.cfgast.specs.Check.{symbol_error}

-- the symbols name rules and tokens of the syntax
abbrev pub Resolves : Syntax → Production → Type 0
Resolves s production = All (λ symbol. symbol_error s symbol ≡ None) production.symbols

pub record IsResolved (s : Syntax) : Type 0 where
  pub start : Word
  pub starts : s.start ≡ Some start
  pub start_is_rule : has_rule start.name s.rules ≡ true
  pub symbols : All (Resolves s) s.productions

-- if there are names, they are those of tokens of the syntax
abbrev pub AreTokens : Syntax → Option (List (List ℕ)) → Type 0
AreTokens s implicit = IfSome implicit (All (λ name. has_name name s.tokens ≡ true))
