use Rattle.std.proofs.Common.{◌≡◌, ℕ, Option, String, Global, refl, List, [], ◌∷◌, ◌++◌, map, position, is_some, sym, ap, ◌∙◌}
use Rattle.std.specs.List.{position_or_len}
use Rattle.std.specs.Map.{keys_of, lookup}
use Rattle.indexmap.proofs.MapLemmas.{some_index}
use Rattle.cfgitems.specs.declared.rule.Rule.{Rule}
use Rattle.lemmas.proofs.Positions.{position_found}
use Rattle.cfgitems.specs.Syntax.{index_of, typed}
use Rattle.cfgitems.specs.Building.{new_rule}
use Rattle.cfgitems.specs.SyntaxView.{syntax_view, syntax_built, rule_entry, rule_view, head_view}
use Rattle.cfgitems.proofs.Steps.{rule-known, rule-new}
use Rattle.cfgitems.proofs.Views.{is_key, has_entry-entries, entries-new, rule_index, rule_index-new}
use Rattle.cfgitems.proofs.builder.AstBuilder.put_rule.Goals as goal

-- an index is found exactly if an entry is
found : (name : List ℕ) (rules : List (String Global × Rule)) (index : Option ℕ) → index ≡ position (is_key name) (keys_of rules) → is_some index ≡ is_some (lookup (is_key name) rules)
found name rules index is = ap is_some is ∙ some_index (is_key name) rules

pub returns-in-Some-clause-added : goal.returns-in-Some-clause-added
unfolding syntax_built syntax_view
returns-in-Some-clause-added c =
    let built = syntax_built c.args.self.now in
    rule-known built (typed built.settings.action_type (head_view c.args.head))
    (has_entry-entries rule_view c.args.head.name.name.now c.args.self.now.syntax.rules.entries ∙ sym (found c.args.head.name.name.now c.args.self.now.syntax.rules.entries _ c.in-Some.ensures))

pub returns-in-Some-clause-index : goal.returns-in-Some-clause-index
unfolding syntax_built syntax_view
returns-in-Some-clause-index c =
    let name = c.args.head.name.name.now in
    let rules = c.args.self.now.syntax.rules.entries in
    position_found (is_key name) (keys_of rules) c.in-Some.index c.in-Some.ensures ∙ sym (rule_index name rules)

-- the rules, with the new one at the end
grown : (c : goal.Joined-branch-4) → map rule_entry c.insert_full.new.self.entries
    ≡ map rule_entry c.args.self.now.syntax.rules.entries ++ new_rule (typed (syntax_built c.args.self.now).settings.action_type (head_view c.args.head)) ∷ []
unfolding syntax_built syntax_view
grown c =
    let name = c.args.head.name.name.now in
    let old = c.args.self.now.syntax.rules in
    ap (map rule_entry) c.in_ok-index.ensures.entries
    ∙ entries-new rule_view name old c.in_ok-key.key c.in_ok-rule.rule c.in_ok-key.ensures.ok (has_entry-entries rule_view name old.entries ∙ sym (found name old.entries _ c.in_default.ensures))
    ∙ ap (λ rule. map rule_entry old.entries ++ (name, rule) ∷ []) c.in_ok-rule.ensures

pub returns-clause-added : goal.returns-clause-added
unfolding syntax_built syntax_view
returns-clause-added c =
    let built = syntax_built c.args.self.now in
    rule-new built (typed built.settings.action_type (head_view c.args.head)) _
    (has_entry-entries rule_view c.args.head.name.name.now c.args.self.now.syntax.rules.entries ∙ sym (found c.args.head.name.name.now c.args.self.now.syntax.rules.entries _ c.in_default.ensures)) (grown c)

pub returns-clause-index : goal.returns-clause-index
unfolding syntax_built syntax_view
returns-clause-index c =
    let name = c.args.head.name.name.now in
    let old = c.args.self.now.syntax.rules in
    let built = syntax_built c.args.self.now in
    c.in_ok-index.ensures.index ∙ ap (λ n. position_or_len (is_key n) (keys_of old.entries)) c.in_ok-key.ensures.ok
    ∙ sym (rule_index name old.entries) ∙ sym (rule_index-new name (map rule_entry old.entries) (new_rule (typed built.settings.action_type (head_view c.args.head))) refl)
    ∙ sym (ap (λ rules. index_of name (map (λ rule. rule.0) rules)) (grown c))
