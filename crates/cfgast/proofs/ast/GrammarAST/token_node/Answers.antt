use Rattle.std.proofs.Common.{◌≡◌, ◌↔◌, ◌+◌, Some, arith, length, map, string_bytes, bytes_eq, option_map, sym, ap, subst, ◌∙◌}
use Rattle.std.proofs.lemmas.List.{length-map}
use Rattle.lemmas.proofs.Positions.{position-map}
use Rattle.cfgitems.specs.SyntaxView.{syntax_view, rule_entry}
use Rattle.cfgast.specs.Inner.Nodes.{IsNodeOf}
use Rattle.cfgast.specs.TreeView.{syntax}
use Rattle.cfgast.specs.Unused.{TokenName}
use Rattle.cfgast.proofs.Found.{names_differ}
use Rattle.cfgast.proofs.Nodes.{token_found}
use Rattle.cfgast.proofs.ast.GrammarAST.token_node.Goals as goal

pub returns-in_err-index-clause-node : goal.returns-in_err-index-clause-node
unfolding syntax syntax_view
returns-in_err-index-clause-node c n =
    let s = syntax c.args.self.now in
    let keys = c.args.self.now.syntax.tokens.keys in
    subst (λ o. (o ≡ Some n) ↔ IsNodeOf s (TokenName c.args.name.now) n)
    (sym (c.from_residual.ensures ∙ ap (option_map (λ index. length s.rules + index)) (c.in_err-index.ensures.index ∙ sym (position-map (bytes_eq c.args.name.now) string_bytes keys))))
    (token_found s (names_differ keys c.len-tokens.ensures.unique) c.args.name.now n)

pub overflow_add-result : goal.overflow_add-result
overflow_add-result c = omega (arith, c.in_ok-index.ensures.within, c.len-tokens.ensures.len, c.len-tokens.ensures.small, c.len.ensures.small)

pub returns-clause-node : goal.returns-clause-node
unfolding syntax syntax_view
returns-clause-node c n =
    let s = syntax c.args.self.now in
    let keys = c.args.self.now.syntax.tokens.keys in
    let rules = c.args.self.now.syntax.rules.entries in
    let before : c.len.result ≡ length (map rule_entry rules) = c.len.ensures.len ∙ sym (length-map rules rule_entry) in
    subst (λ o. (o ≡ Some n) ↔ IsNodeOf s (TokenName c.args.name.now) n)
    (sym (ap (λ m. Some (m + c.in_ok-index.index)) before ∙ ap (option_map (λ index. length (map rule_entry rules) + index))
    (c.in_ok-index.ensures.index ∙ sym (position-map (bytes_eq c.args.name.now) string_bytes keys))))
    (token_found s (names_differ keys c.len-tokens.ensures.unique) c.args.name.now n)
