use Rattle.std.proofs.Common.{string_bytes, bytes_eq, arith, sym, subst}
use Rattle.std.specs.List.{IsDistinct}
use Rattle.std.proofs.lemmas.List.{length-map}
use Rattle.cfgitems.specs.SyntaxView.{syntax_view, rule_entry}
use Rattle.cfgast.specs.TreeView.{syntax}
use Rattle.cfgast.proofs.Found.{names_differ, rule_names}
use Rattle.cfgast.proofs.ast.GrammarAST.node_count.Goals as goal

pub returns-clause-count : goal.returns-clause-count
unfolding syntax syntax_view
returns-clause-count c =
    let said = c.args.self.now.syntax in
    omega (arith, c.len.ensures.len, c.len-2.ensures.len, length-map said.rules.entries rule_entry, length-map said.tokens.keys string_bytes)

pub returns-clause-rules : goal.returns-clause-rules
unfolding syntax syntax_view
returns-clause-rules c = subst (IsDistinct bytes_eq) (sym (rule_names c.args.self.now.syntax.rules.entries)) (names_differ _ c.len.ensures.unique)

pub returns-clause-tokens : goal.returns-clause-tokens
unfolding syntax syntax_view
returns-clause-tokens c = names_differ c.args.self.now.syntax.tokens.keys c.len-2.ensures.unique
