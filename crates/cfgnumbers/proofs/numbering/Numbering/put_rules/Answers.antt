use Rattle.std.proofs.Common.{ℕ, List, ◌∷◌, ◌++◌, [], ◌<◌, length, map, All, arith, ap, ◌∙◌, append_assoc}
use Rattle.std.specs.List.{list_any}
use Rattle.std.specs.Str.{bytes_eq}
use Rattle.std.proofs.lemmas.Iterator.Consumers.{YieldsList-end}
use Rattle.cfgitems.specs.Syntax.{Rule}
use Rattle.cfgitems.specs.SyntaxView.{rule_view as plain_rule}
use Rattle.cfgnumbers.specs.Numbered.{added_rules, file_rule}
use Rattle.cfgnumbers.specs.TablesView.{file_of, implicit_in}
use Rattle.cfgnumbers.proofs.Positions.{listed_within}
use Rattle.lemmas.proofs.Roads.{item_holds, more_shown, name_is_new}
use Rattle.cfgnumbers.proofs.RowLemmas.{added_names, rule_names-distinct, rule_names_shown, rule_seen, rules_road}
use Rattle.cfgnumbers.proofs.numbering.Numbering.put_rules.Goals as goal

pub put_rule-requires-clause-new : goal.put_rule-requires-clause-new
put_rule-requires-clause-new g c =
    let s = file_of c.args.self.now in
    let implicit = implicit_in c.args.self.now in
    let road = rules_road s c.rules-name-items.result.now.entries c.rules-name-items.ensures c.into_iter-name-iterator.ensures.into_iter_gives.0 in
    let names_are = rule_names_shown g.S.Storage.number implicit (length s.productions) c.loop-name.rows.entries (map rule_seen c.loop-name.yielded) c.loop-name.invariant in
    (λ i. list_any (bytes_eq (c.as_str.ensures.value i)) (names_are i))
    ∙ name_is_new road c.loop-name.yielded _ c.loop-name.yielded_by _ _ (c.in-Some.name, c.in-Some.rule) c.in-Some.is c.next.ensures.steps
    (added_names implicit) (λ (rule : List ℕ × Rule). rule.0) (rule_names-distinct implicit s c.requires.numberable)

pub put_rule-requires-clause-positions : goal.put_rule-requires-clause-positions
put_rule-requires-clause-positions g c =
    let s = file_of c.args.self.now in
    let road = rules_road s c.rules-name-items.result.now.entries c.rules-name-items.ensures c.into_iter-name-iterator.ensures.into_iter_gives.0 in
    let within = item_holds road c.loop-name.yielded _ c.loop-name.yielded_by _ _ (c.in-Some.name, c.in-Some.rule) c.in-Some.is c.next.ensures.steps
    (λ (rule : List ℕ × Rule). All (λ index. index < length s.productions) rule.1.productions) (listed_within s c.requires.numberable.well_formed) in
    λ k d there. omega (arith, within k d there, c.requires.room.productions)

pub loop-name-preserved : goal.loop-name-preserved
loop-name-preserved g c =
    let added = added_rules (implicit_in c.args.self.now) (length (file_of c.args.self.now).productions) in
    c.in_ok-put_rule.ensures
    ∙ (λ i. c.loop-name.invariant i ++ file_rule (c.as_str.ensures.value i, plain_rule c.in-Some.rule.now) ∷ [])
    ∙ append_assoc added (map file_rule (map rule_seen c.loop-name.yielded)) (file_rule (rule_seen (c.in-Some.name, c.in-Some.rule)) ∷ [])
    ∙ ap (λ rules. added ++ rules) (more_shown file_rule rule_seen c.loop-name.yielded (c.in-Some.name, c.in-Some.rule))

pub returns : goal.returns
returns g c =
    let s = file_of c.args.self.now in
    let road = rules_road s c.rules-name-items.result.now.entries c.rules-name-items.ensures c.into_iter-name-iterator.ensures.into_iter_gives.0 in
    c.loop-name.invariant
    ∙ ap (λ rules. added_rules (implicit_in c.args.self.now) (length s.productions) ++ map file_rule rules)
    (YieldsList-end road c.loop-name.yielded _ c.loop-name.yielded_by _ _ c.in-None.is c.next.ensures.steps).0
