use Rattle.std.proofs.Common.{◌≡◌, ℕ, List, None, option_map, position, bytes_eq, sym, ap, ◌∙◌}
use Rattle.cfgrammar.specs.AstSymbol.{Symbol}
use Rattle.cfgrammar.specs.Grammar.{Rule}
use Rattle.cfgrammar.specs.Numbered.{NumberedRule}
use Rattle.cfgrammar.specs.SyntaxView.{symbol_view}
use Rattle.cfgfindings.specs.Needless.{symbol_named}
use Rattle.cfgfindings.proofs.needless.named.Goals as goal

pub returns-in-None-clause-value : goal.returns-in-None-clause-value
returns-in-None-clause-value c =
    let rules = c.args.grammar.now.rules in
    let unknown : position (λ (rule : NumberedRule). bytes_eq c.deref.result.now rule.name) rules ≡ None = sym c.in-None.ensures.value in
    sym (ap (λ (symbol : Symbol). symbol_named c.args.grammar.now (symbol_view symbol)) c.in-Rule.is
    ∙ ap (λ (name : List ℕ). option_map Rule (position (λ (rule : NumberedRule). bytes_eq name rule.name) rules)) (sym c.deref.ensures)
    ∙ ap (option_map Rule) unknown)
