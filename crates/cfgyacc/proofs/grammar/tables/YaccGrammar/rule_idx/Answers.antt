use Rattle.std.proofs.Common.{sym, ap, subst, ◌∙◌, position, Some}
use Rattle.std.specs.Str.{bytes_eq}
use Rattle.cfgnumbers.specs.Numbered.{Numbered, NumberedRule}
use Rattle.cfgnumbers.specs.TablesView.{tables}
use Rattle.cfgnumbers.specs.WellNumbered.{HasDistinctNames}
use Rattle.cfgnumbers.proofs.Lookups.{rule_position}
use Rattle.cfgnumbers.proofs.DistinctNames.{rule_found}
use Rattle.cfgnumbers.proofs.Within.{position_within}
use Rattle.cfgyacc.proofs.grammar.tables.YaccGrammar.rule_idx.Goals as goal

pub returns-in-Some-clause-value : goal.returns-in-Some-clause-value
unfolding tables
returns-in-Some-clause-value g c =
    ap Some c.to_storage.ensures ∙ c.in-Some.ensures.index
    ∙ rule_position g.S.Storage.number c.args.name.now c.self.inside.rules.entries
    ∙ ap (λ (g : Numbered). position (λ (rule : NumberedRule). bytes_eq c.args.name.now rule.name) g.rules) c.self.view_is

pub returns-in-Some-clause-found : goal.returns-in-Some-clause-found
returns-in-Some-clause-found g c = λ r at. returns-in-Some-clause-value g c ∙ rule_found c.args.self.now (subst HasDistinctNames c.self.view_is c.self.invariant.names) r c.args.name.now at

pub returns-in-Some-clause-within : goal.returns-in-Some-clause-within
returns-in-Some-clause-within g c = position_within _ _ _ (sym (returns-in-Some-clause-value g c))

pub returns-in-None-clause-value : goal.returns-in-None-clause-value
unfolding tables
returns-in-None-clause-value g c =
    c.in-None.ensures.index
    ∙ rule_position g.S.Storage.number c.args.name.now c.self.inside.rules.entries
    ∙ ap (λ (g : Numbered). position (λ (rule : NumberedRule). bytes_eq c.args.name.now rule.name) g.rules) c.self.view_is

pub returns-in-None-clause-found : goal.returns-in-None-clause-found
returns-in-None-clause-found g c = λ r at. returns-in-None-clause-value g c ∙ rule_found c.args.self.now (subst HasDistinctNames c.self.view_is c.self.invariant.names) r c.args.name.now at
