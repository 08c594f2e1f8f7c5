use Rattle.std.proofs.Common.{◌↔◌, false, IsTrue, Some, get_or, refl, subst, ap, ◌∙◌}
use Rattle.cfgrammar.specs.Numbered.{Numbered}
use Rattle.cfgrammar.specs.NumberedSymbols.{sym_of}
use Rattle.cfgrammar.specs.SyntaxView.{symbol_view}
use Rattle.cfgfindings.specs.Needless.{IsUsedSymbol}
use Rattle.cfgfindings.proofs.Reached.{symbol_of}
use Rattle.cfgfindings.proofs.UsedSymbols.{used_if_reached}
use Rattle.cfgfindings.proofs.needless.Used.contains.Goals as goal

pub returns-in-Some : goal.returns-in-Some
returns-in-Some c =
    let h = c.self.inside.grammar.now in
    let symbol = symbol_view c.args.symbol.now in
    let numbered = sym_of (λ s. s) c.in-Some.symbol in
    let bits = c.self.inside.reached.reachable in
    subst (λ (g : Numbered). IsTrue c.is_reachable.result ↔ IsUsedSymbol g symbol) c.self.view_is
    (used_if_reached h symbol (Some numbered) c.in-Some.ensures.value numbered refl c.self.inside.reached c.self.invariant
    (symbol_of h c.in-Some.symbol c.in-Some.ensures.within) c.is_reachable.result
    (c.is_reachable.ensures ∙ ap (λ n. get_or bits n false) c.node_of.ensures.value))
