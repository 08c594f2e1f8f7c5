use Rattle.std.proofs.Common.{◌≡◌, ◌++◌, length, map, option_map, sym, subst, ◌∙◌}
use Rattle.scoped.proofs.Given.{given, given_match}
use Rattle.std.specs.List.{zip}
use Rattle.cfgitems.specs.SyntaxView.{production_view}
use Rattle.cfgast.specs.TreeView.{syntax}
use Rattle.cfgast.specs.WellFormed.{IsWellFormed}
use Rattle.cfgnumbers.specs.Fits.{LeavesRoom}
use Rattle.cfgnumbers.specs.Numberable.{IsNumberable}
use Rattle.cfgnumbers.specs.Numbered.{added_productions, added_rules, file_production, file_rule, file_token}
use Rattle.cfgnumbers.specs.Resolved.{AreTokens}
use Rattle.cfgnumbers.specs.TablesView.{file_of, implicit_in}
use Rattle.cfgnumbers.specs.WellNumbered.{IsWellNumbered}
use Rattle.cfgyacc.proofs.Built.{built, of_both, well_numbered}
use Rattle.cfgnumbers.proofs.Positions.{implicit_there}
use Rattle.cfgnumbers.proofs.Turns.{as_long}
use Rattle.cfgyacc.proofs.grammar.tables.YaccGrammar.from_numberable.Goals as goal
use Rattle.cfgyacc.proofs.grammar.tables.YaccGrammar.from_numberable.Goals.{in-Err, in-Ok}

pub rule_rows-requires : goal.rule_rows-requires
rule_rows-requires g c =
    let numbering = c.new-numbering.ensures in
    record {
      numberable = subst IsNumberable (sym numbering.file) c.requires.numberable;
      room = of_both (λ s implicit. LeavesRoom g.S.Storage.MAX implicit s) _ _ _ _ numbering.file numbering.implicit c.requires.room;
    }

pub token_rows-tokens-requires : goal.token_rows-tokens-requires
token_rows-tokens-requires g c = record { well_formed = subst IsWellFormed (sym c.new-numbering.ensures.file) c.requires.numberable.well_formed }

pub production_rows-prods-requires-clause-implicit : goal.production_rows-prods-requires-clause-implicit
production_rows-prods-requires-clause-implicit g c =
    of_both AreTokens _ _ _ _ c.new-numbering.ensures.file c.new-numbering.ensures.implicit
    (implicit_there c.args.kind (syntax c.args.ast.now) c.requires.numberable.well_formed)

pub implicit_rule-requires : goal.implicit_rule-requires
implicit_rule-requires g c =
    of_both (λ s implicit. LeavesRoom g.S.Storage.MAX implicit s) _ _ _ _ c.new-numbering.ensures.file c.new-numbering.ensures.implicit c.requires.room

pub returns : goal.returns
returns g c =
    let s = syntax c.args.ast.now in
    let numbering = c.new-numbering.ensures in
    let got = c.in_ok-rules.ensures.made in
    let rules = given _ c.rule_rows.result _ got.0 c.rule_rows.ensures in
    let file = file_of c.new-numbering.result in
    let implicit = implicit_in c.new-numbering.result in
    let prods : c.in_ok-rules.prods ≡ map (file_production implicit file) (zip file.production_rules file.productions) ++ added_productions implicit file = elim c.match-tokens.branch [
      | in-Ok w ↦ given _ w.production_rows-prods.result _ (sym w.prods-is ∙ got.1) w.production_rows-prods.ensures
      | in-Err w ↦ cc
    ] in
    let tokens = given _ c.token_rows-tokens.result _ got.2 c.token_rows-tokens.ensures in
    let settings = given_match _ _ c.clone.result _ got.3 c.clone.ensures.cases in
    built g.S.Storage.number c.args.kind s c.in_ok-rules.rules.entries c.in_ok-rules.prods c.in_ok-rules.tokens.entries
    (record { 0 = c.to_storage.result }) c.implicit_rule.result c.in_ok-rules.settings
    (rules ∙ (λ i. added_rules (numbering.implicit i) (length (numbering.file i).productions) ++ map file_rule (numbering.file i).rules))
    (prods ∙ (λ i.
    map (file_production (numbering.implicit i) (numbering.file i)) (zip (numbering.file i).production_rules (numbering.file i).productions)
    ++ added_productions (numbering.implicit i) (numbering.file i)))
    (tokens ∙ (λ i. map (file_token (numbering.file i)) (zip (numbering.file i).tokens (numbering.file i).spans)))
    (c.to_storage.ensures ∙ sym (as_long production_view c.prods.result.now s.productions c.prods.ensures))
    (c.implicit_rule.ensures ∙ (λ i. option_map (λ names. 1) (numbering.implicit i)))
    (settings ∙ c.settings.ensures)

pub invariant_of-result : goal.invariant_of-result
invariant_of-result g c =
    subst (IsWellNumbered g.S.Storage.MAX) (sym (returns g c)) (well_numbered g.S.Storage.MAX c.args.kind (syntax c.args.ast.now) c.requires.numberable c.requires.room)
