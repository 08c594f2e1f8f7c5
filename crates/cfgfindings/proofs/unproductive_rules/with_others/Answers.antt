use Rattle.std.proofs.Common.{◌&&◌, ◌<◌, ◌++◌, All, leb, eqb, length, map, not, string_bytes, sym, ap, subst, ◌∙◌}
use Rattle.std.specs.List.{filter}
use Rattle.cfgfindings.specs.Shown.{rule_span}
use Rattle.cfgfindings.proofs.Texts.{shown_with}
use Rattle.cfgfindings.proofs.UnproductiveRules.{are_others, others_within}
use Rattle.cfgfindings.proofs.unproductive_rules.with_others.Goals as goal

pub name_spans-requires-2 : goal.name_spans-requires-2
name_spans-requires-2 c =
    let g = c.args.grammar.now in
    let group = c.args.group.now in
    let are = c.in_ok-others.ensures ∙ ap (λ n. filter (λ other. leb n other && not (eqb other c.args.rule)) group) c.rules_added.ensures in
    subst (All (λ q. q < length g.rules)) (sym c.deref.ensures.value) (others_within g c.args.rule group c.requires.group c.in_ok-others.others.items are)

pub returns : goal.returns
returns c =
    let g = c.args.grammar.now in
    let group = c.args.group.now in
    let others = c.in_ok-others.others.items in
    let are = c.in_ok-others.ensures ∙ ap (λ n. filter (λ other. leb n other && not (eqb other c.args.rule)) group) c.rules_added.ensures in
    let back = c.deref-2.ensures.value ∙ c.in_ok-name_spans.ensures ∙ ap (map (rule_span g)) c.deref.ensures.value in (
      others,
      are_others g c.args.rule group c.requires.group others are,
      c.new.ensures ∙ ap (λ l. shown_with c.args.kind l (string_bytes c.args.text)) (c.in_ok-extend_from_slice.ensures.items ∙ (λ i. c.in_ok-spans.ensures i ++ back i)),
    )
