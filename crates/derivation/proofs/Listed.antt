-- The symbols of productions have entries in lists of costs.
use Rattle.std.proofs.Common.{ℕ, ◌<◌, [], length, All, arith}
use Rattle.std.specs.Prelude.{slice_index_or}
use Rattle.std.proofs.lemmas.List.Elements.{All-weaker}
use Rattle.derivation.specs.Grammar.{Sym, Rule, Token, Grammar, Production, IsGrammar, IsSymbolOf}
use Rattle.derivation.specs.CostLists.{IsListed}

-- the production with this number
abbrev nth : Grammar → ℕ → Production
nth g p = slice_index_or g.productions p (record { rule = 0; symbols = [] })

-- the symbols of a production have entries in the lists
pub symbols_listed : (g : Grammar) (n : ℕ) → IsGrammar g → n < length g.productions → All (IsListed g.rules g.tokens) (nth g n).symbols
symbols_listed g n is within = All-weaker (IsSymbolOf g) (IsListed g.rules g.tokens) one (nth g n).symbols
    (is.symbols n (record { rule = 0; symbols = [] }) within)
  where
    one : (s : Sym) → IsSymbolOf g s → IsListed g.rules g.tokens s
    one (Rule r) h = h
    one (Token t) h = omega (arith, h)
