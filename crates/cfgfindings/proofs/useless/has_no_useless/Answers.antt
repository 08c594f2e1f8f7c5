use Rattle.std.proofs.Common.{false, MatchBool, sym, subst}
use Rattle.cfgrammar.specs.Grammar.{IsGrammar, Sym}
use Rattle.cfgrammar.specs.Numbered.{Numbered, core}
use Rattle.cfgfindings.specs.Inner.Unproductive.{UnproductiveOrNot}
use Rattle.cfgfindings.specs.Useless.{IsUseless}
use Rattle.cfgfindings.proofs.Reached.{none_useless}
use Rattle.cfgfindings.proofs.useless.has_no_useless.Goals as goal

pub returns-then-is_empty : goal.returns-then-is_empty
returns-then-is_empty c =
    let g = c.args.unproductive.now in
    let is = subst (λ (n : Numbered). IsGrammar (core n)) c.grammar-grammar.ensures c.invariant_holds.ensures.whole.grammar in
    subst (λ b. MatchBool b ((symbol : Sym) → IsUseless (core g) symbol → ⊥) (UnproductiveOrNot g 0 false)) (sym c.if-is_empty.true)
    (none_useless g is (c.usable_productions_hold_sentences.ensures (core g)) (c.is_empty.ensures c.if-is_empty.true))
