use Rattle.std.proofs.Common.{arith}
use Rattle.std.proofs.lemmas.Grind.{common_steps}
use Rattle.cfgitems.specs.SyntaxView.{token_view}
use Rattle.cfgreader.specs.Rules.{SymbolPart, symbol_part}
use Rattle.cfgreader.proofs.reader.Reader.symbol.Goals as goal

pub returns-in_ok-quote_token-in-Some : goal.returns-in_ok-quote_token-in-Some
unfolding symbol_part
returns-in_ok-quote_token-in-Some c =
    (SymbolPart (token_view c.in-Some.token), grind (arith, common_steps), c.in_ok-add-in-Some.ensures, grind (arith, common_steps))

pub returns-else-token : goal.returns-else-token
unfolding symbol_part
returns-else-token c =
    (SymbolPart (token_view c.in-Some.token), grind (arith, common_steps), c.in_ok-add-in-Some.ensures, grind (arith, common_steps))
