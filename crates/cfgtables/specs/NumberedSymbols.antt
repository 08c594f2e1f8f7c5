-- The symbols of productions, in numbers.
use Rattle.std.specs.Prelude.{ℕ}
use Rattle.cfgindex.specs.declared.idxnewtype.Symbol.{Symbol}
use Rattle.cfgindex.specs.declared.idxnewtype.Symbol.TheVariants as symbols
use Rattle.derivation.specs.Grammar.{Sym, Rule, Token}

abbrev pub sym_of : {S : Type 0} → (S → ℕ) → Symbol S → Sym
sym_of number (symbols.Rule rule) = Rule (number rule.0)
sym_of number (symbols.Token token) = Token (number token.0)
