use Rattle.cfgrammar.specs.Numbered.{core}
use Rattle.generator_tools.proofs.Listed.{entry_at, rule_at, symbols_at}
use Rattle.generator_tools.proofs.UsedAt.{used_at}
use Rattle.generator_tools.proofs.ll1.is_used.Goals as goal

pub returns : goal.returns
returns g c =
    let number = g.S.Storage.number in
    let grammar = c.args.grammar.now in
    let owner = rule_at grammar (number c.args.pidx.0) c.requires.production _ c.prod_to_rule.ensures.value in
    let symbols = symbols_at grammar (number c.args.pidx.0) c.requires.production _ c.prod.ensures.value in
    let used = used_at (core grammar) _ _ c.requires.firsts c.requires.follows _ (number c.args.token.0) _
    (c.lists_begin_symbol_by_symbol.ensures.nullable (core grammar) _) (c.lists_begin_symbol_by_symbol.ensures.begins (core grammar) _ _) in
    entry_at grammar (number c.args.pidx.0) c.requires.production _ (number c.args.token.0) _ _ owner symbols
    ((λ h. used.0 (c.is_used_by_sets.ensures.0 h)), (λ h. c.is_used_by_sets.ensures.1 (used.1 h)))
