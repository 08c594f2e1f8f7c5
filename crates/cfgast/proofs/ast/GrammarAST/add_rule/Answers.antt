use Rattle.std.proofs.Common.{◌≡◌, ℕ, false, List, [], ◌∷◌, ◌++◌, map, None, String, Global, option_map, string_bytes, string_eq, is_some, sym, ap, ◌∙◌}
use Rattle.std.specs.Map.{lookup, set_value}
use Rattle.indexmap.specs.IndexMap.{insert_entry}
use Rattle.std.specs.Str.{bytes_eq}
use Rattle.cfgitems.specs.Syntax.{Syntax}
use Rattle.cfgitems.specs.Items.{RuleHead}
use Rattle.cfgitems.specs.Building.{has_rule, new_rule}
use Rattle.cfgitems.specs.SyntaxView.{syntax_view, named_view, rule_entry, rule_view}
use Rattle.cfgast.specs.TreeView.{syntax}
use Rattle.cfgitems.specs.declared.rule.Rule.{Rule}
use Rattle.cfgitems.proofs.Views.{is_key, has_entry-entries, entries-new, on_err, changed-set_value}
use Rattle.cfgast.proofs.AddedRules.{added-known, added-new, added-there}
use Rattle.cfgast.proofs.ast.GrammarAST.add_rule.Goals as goal

pub returns-in-Some-clause-added : goal.returns-in-Some-clause-added
unfolding syntax syntax_view
returns-in-Some-clause-added c =
    let name = string_bytes c.args.name.0 in
    let rules = c.args.self.now.syntax.rules.entries in
    let head : RuleHead = record { name = named_view c.args.name; action_type = option_map string_bytes c.args.actiont } in
    let new : Rule = record { name = c.args.name; pidxs = c.new-pidxs.result; actiont = c.args.actiont } in
    let found = ap (λ n. lookup (is_key n) rules) (sym c.as_str.ensures.value) ∙ sym c.in-Some.ensures.value in
    added-known (syntax c.args.self.now) head _ (has_entry-entries rule_view name rules ∙ ap is_some found)
    (ap (map rule_entry) (c.get_mut.follows.holds new).0 ∙ ap (λ n. map rule_entry (set_value (is_key n) rules new)) c.as_str.ensures.value
    ∙ changed-set_value name (λ _. (new_rule head).1) rules _ new c.in-Some.ensures.unique found
    (ap (λ offsets. record (new_rule head).1 { productions = offsets }) c.new-pidxs.ensures.items))

-- no rule has the name
absent : (name text : List ℕ) (rules : List (String Global × Rule)) → text ≡ name → lookup (is_key text) rules ≡ None → has_rule name (map rule_entry rules) ≡ false
absent name text rules is none = has_entry-entries rule_view name rules ∙ ap is_some (ap (λ n. lookup (is_key n) rules) (sym is) ∙ none)

pub returns-in_err-key-clause-memory : goal.returns-in_err-key-clause-memory
unfolding syntax syntax_view
returns-in_err-key-clause-memory c = on_err c.from_residual.result (absent _ _ c.args.self.now.syntax.rules.entries c.as_str.ensures.value (sym c.in_default.ensures.value))

pub returns-in_err-insert-clause-memory : goal.returns-in_err-insert-clause-memory
unfolding syntax syntax_view
returns-in_err-insert-clause-memory c =
    on_err c.from_residual-in_err-insert.result (absent _ _ c.args.self.now.syntax.rules.entries c.as_str.ensures.value (sym c.in_default.ensures.value))

pub returns-clause-added : goal.returns-clause-added
unfolding syntax syntax_view
returns-clause-added c =
    let name = string_bytes c.args.name.0 in
    let old = c.args.self.now.syntax.rules in
    let head : RuleHead = record { name = named_view c.args.name; action_type = option_map string_bytes c.args.actiont } in
    let new : Rule = record { name = c.args.name; pidxs = c.new-pidxs.result; actiont = c.args.actiont } in
    let new_name = absent name _ old.entries c.as_str.ensures.value (sym c.in_default.ensures.value) in
    added-new (syntax c.args.self.now) head _ new_name
    (ap (map rule_entry) c.in_ok-insert.ensures.entries
    ∙ ap (λ m. map rule_entry (insert_entry string_eq m.entries c.in_ok-key.key new)) c.get_mut.follows.holds-at-none ∙ entries-new rule_view name old c.in_ok-key.key new c.in_ok-key.ensures.cases new_name
    ∙ ap (λ offsets. map rule_entry old.entries ++ (name, record (new_rule head).1 { productions = offsets }) ∷ []) c.new-pidxs.ensures.items)

pub returns-in-Some-clause-there : goal.returns-in-Some-clause-there
returns-in-Some-clause-there c =
    ap (λ (s : Syntax). is_some (lookup (bytes_eq (string_bytes c.args.name.0)) s.rules)) (returns-in-Some-clause-added c)
    ∙ added-there (syntax c.args.self.now) (record { name = named_view c.args.name; action_type = option_map string_bytes c.args.actiont })

pub returns-clause-there : goal.returns-clause-there
returns-clause-there c =
    ap (λ (s : Syntax). is_some (lookup (bytes_eq (string_bytes c.args.name.0)) s.rules)) (returns-clause-added c)
    ∙ added-there (syntax c.args.self.now) (record { name = named_view c.args.name; action_type = option_map string_bytes c.args.actiont })
