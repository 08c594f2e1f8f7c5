use Rattle.std.proofs.Common.{◌≡◌, bytes_eq, position, refl, sym, subst, ◌∙◌}
use Rattle.std.specs.List.{IsDistinct}
use Rattle.cfgrammar.specs.SyntaxView.{precedence_entry, rule_entry}
use Rattle.cfgrammar.specs.TreeView.{syntax}
use Rattle.cfgfindings.specs.Inner.Marks.{table_keys}
use Rattle.cfgfindings.proofs.Marking.{entries_differ, entry_position}
use Rattle.cfgfindings.proofs.marks.index_of.Goals as goal

pub returns-in-Rules-clause-distinct : goal.returns-in-Rules-clause-distinct
returns-in-Rules-clause-distinct c = subst (λ table. IsDistinct bytes_eq (table_keys table (syntax c.args.ast.now))) (sym c.in-Rules.is)
    (entries_differ rule_entry (λ e. refl) c.rules.result.now.entries (syntax c.args.ast.now).rules c.rules.ensures c.get_index_of.ensures.unique)

pub returns-in-Rules-clause-index : goal.returns-in-Rules-clause-index
returns-in-Rules-clause-index c = subst (λ table. c.get_index_of.result ≡ position (bytes_eq c.args.name.now) (table_keys table (syntax c.args.ast.now))) (sym c.in-Rules.is)
    (c.get_index_of.ensures.index ∙ entry_position rule_entry (λ e. refl) c.args.name.now c.rules.result.now.entries (syntax c.args.ast.now).rules c.rules.ensures)

pub returns-in-Precedences-clause-distinct : goal.returns-in-Precedences-clause-distinct
returns-in-Precedences-clause-distinct c = subst (λ table. IsDistinct bytes_eq (table_keys table (syntax c.args.ast.now))) (sym c.in-Precedences.is)
    (entries_differ precedence_entry (λ e. refl) c.precs.result.now.entries (syntax c.args.ast.now).tables.precedences c.precs.ensures c.get_index_of-in-Precedences.ensures.unique)

pub returns-in-Precedences-clause-index : goal.returns-in-Precedences-clause-index
returns-in-Precedences-clause-index c = subst (λ table. c.get_index_of-in-Precedences.result ≡ position (bytes_eq c.args.name.now) (table_keys table (syntax c.args.ast.now))) (sym c.in-Precedences.is)
    (c.get_index_of-in-Precedences.ensures.index ∙ entry_position precedence_entry (λ e. refl) c.args.name.now c.precs.result.now.entries (syntax c.args.ast.now).tables.precedences c.precs.ensures)
