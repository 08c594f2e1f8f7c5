use Rattle.std.proofs.Common.{◌≤◌, ℕ, Contains, MatchBool, get_or, arith, sym, subst, ◌∙◌}
use Rattle.std.proofs.lemmas.Bool.{ltb-false}
use Rattle.std.proofs.lemmas.List.{get_or_default, take_all}
use Rattle.std.proofs.lemmas.List.Elements.{Contains-get_or}
use Rattle.cfgrammar.specs.TreeView.{syntax}
use Rattle.cfgfindings.specs.Findings.{IsStartRule, rules_added}
use Rattle.cfgfindings.proofs.UnproductiveRules.{comes_before, first_or_not, has_start, more_others, starts_as}
use Rattle.cfgfindings.proofs.unproductive_rules.is_first_of_sink_group.Goals as goal
use Rattle.cfgfindings.proofs.unproductive_rules.is_first_of_sink_group.Goals.{else-first-other-via-then-first-other+else-is_start, then-other-rule, else-other-rule, else-first-other-via-else-first-other}

pub returns-then-is_start : goal.returns-then-is_start
returns-then-is_start c =
    let s = syntax c.args.ast.now in
    let g = c.args.grammar.now in
    let group = c.args.group.now in
    let q = get_or group c.loop-other.other-index 0 in
    let held = Contains-get_or group c.loop-other.other-index 0 c.loop-other-test.true in
    let own = subst (λ n. n ≤ q) c.rules_added-first.ensures c.if-first-other.true in
    elim c.if-other-rule.branch [
      | then-other-rule w ↦ comes_before g c.args.rule group c.requires.group s q held own w.if-other-rule.true
      | else-other-rule w ↦
          let start = subst (λ b. MatchBool b (IsStartRule s g q) (IsStartRule s g q → ⊥)) (sym w.value-is ∙ c.if-is_start.true)
          (starts_as s g q w.to_storage.result w.to_storage.ensures w.rule_name_str.result.now w.rule_name_str.ensures w.is_start.result w.is_start.ensures) in
          has_start g c.args.rule group c.requires.group s q held own start
    ]

pub loop-other-preserved : goal.loop-other-preserved
loop-other-preserved c =
    let s = syntax c.args.ast.now in
    let g = c.args.grammar.now in
    let group = c.args.group.now in
    let n = c.loop-other.other-index in
    let lt = c.loop-other-test.true in
    let q = get_or group n 0 in
    more_others (λ q. rules_added g ≤ q → (c.args.rule ≤ q) × (IsStartRule s g q → ⊥)) group n q lt (get_or_default group n 0 q lt) c.loop-other.invariant
    (elim c.else-first-other.branch [
      | else-first-other-via-then-first-other+else-is_start w ↦ elim w.if-other-rule.branch [
        | then-other-rule w' ↦ let after = ltb-false q c.args.rule (sym w'.value-is ∙ w.if-is_start.false) in absurd (omega (arith, after, w'.if-other-rule.true))
        | else-other-rule w' ↦ λ own. (
          w'.if-other-rule.false,
          subst (λ b. MatchBool b (IsStartRule s g q) (IsStartRule s g q → ⊥)) (sym w'.value-is ∙ w.if-is_start.false)
              (starts_as s g q w'.to_storage.result w'.to_storage.ensures w'.rule_name_str.result.now w'.rule_name_str.ensures w'.is_start.result w'.is_start.ensures),
        )
      ]
      | else-first-other-via-else-first-other w ↦ λ own. absurd (omega (arith, own, w.if-first-other.false, c.rules_added-first.ensures))
    ])

pub returns : goal.returns
returns c =
    let s = syntax c.args.ast.now in
    let g = c.args.grammar.now in
    let group = c.args.group.now in
    first_or_not g c.args.rule group c.requires.group s c.requires.ours
    (subst (λ l. (q : ℕ) → Contains l q → rules_added g ≤ q → (c.args.rule ≤ q) × (IsStartRule s g q → ⊥)) (take_all c.loop-other.other-index group c.loop-other-test.false) c.loop-other.invariant)
    c.is_empty.result c.is_empty.ensures
