use Rattle.std.proofs.Common.{◌↔◌, IsTrue, ap, not, sym, subst, ◌∙◌}
use Rattle.cfgrammar.specs.Accessors.{IsSymbolWithin}
use Rattle.cfgrammar.specs.Numbered.{Numbered, core}
use Rattle.cfgrammar.specs.NumberedSymbols.{sym_of}
use Rattle.cfgfindings.specs.Inner.Reached.{node_of}
use Rattle.cfgfindings.specs.Useless.{IsUseless}
use Rattle.cfgfindings.proofs.Reached.{symbol_of, useless_if_unusable, useless_unless_reached}
use Rattle.cfgfindings.proofs.useless.Reached.is_useless.Goals as goal

pub returns-then-is_reachable : goal.returns-then-is_reachable
returns-then-is_reachable c =
    let g = c.self.inside.unproductive.now in
    let symbol = sym_of (λ s. s) c.args.symbol in
    let is = symbol_of g c.args.symbol (subst (λ (n : Numbered). IsSymbolWithin (λ s. s) n c.args.symbol) (sym c.self.view_is) c.requires) in
    let at = c.node_of-node.ensures.value ∙ ap (λ (n : Numbered). node_of n symbol) c.grammar.ensures in
    subst (λ (n : Numbered). IsTrue (not c.is_reachable-then-is_reachable.result) ↔ IsUseless (core n) symbol) c.self.view_is
    (useless_if_unusable g _ _ c.self.invariant symbol is c.node_of-node.result at c.is_reachable.result c.is_reachable.ensures c.if-is_reachable.true
    c.is_reachable-then-is_reachable.result c.is_reachable-then-is_reachable.ensures)

pub returns-else-is_reachable : goal.returns-else-is_reachable
returns-else-is_reachable c =
    let g = c.self.inside.unproductive.now in
    let symbol = sym_of (λ s. s) c.args.symbol in
    let is = symbol_of g c.args.symbol (subst (λ (n : Numbered). IsSymbolWithin (λ s. s) n c.args.symbol) (sym c.self.view_is) c.requires) in
    let at = c.node_of-node.ensures.value ∙ ap (λ (n : Numbered). node_of n symbol) c.grammar.ensures in
    subst (λ (n : Numbered). IsTrue c.is_reachable.result ↔ IsUseless (core n) symbol) c.self.view_is
    (useless_unless_reached g _ _ c.self.invariant symbol is c.node_of-node.result at c.is_reachable.result c.is_reachable.ensures c.if-is_reachable.false)
