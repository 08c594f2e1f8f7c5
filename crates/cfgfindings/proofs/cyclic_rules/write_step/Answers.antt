use Rattle.std.proofs.Common.{◌<◌, All, length, ap, sym, subst, ◌∙◌}
use Rattle.std.proofs.lemmas.List.Elements.{All-drop, All-take}
use Rattle.std.proofs.lemmas.Result.{on_ok_weaker}
use Rattle.cfgrammar.specs.Accessors.{IsSymbolWithin}
use Rattle.cfgrammar.proofs.Shows.{rule_named}
use Rattle.cfgfindings.specs.Shown.{rule_name}
use Rattle.cfgfindings.proofs.TargetTexts.{back_shown, prefix_shown, position_there, rule_there, some_after, step_written}
use Rattle.cfgfindings.proofs.Read.{production_fits, production_there, rule_fits}
use Rattle.cfgfindings.proofs.cyclic_rules.write_step.Goals as goal

pub to_storage-requires : goal.to_storage-requires
to_storage-requires c = production_fits _ c.args.grammar.now c.args.step.production c.invariant_holds.ensures c.requires.1.there

pub prod-symbols-requires : goal.prod-symbols-requires
prod-symbols-requires c =
    subst (λ p. p < length c.args.grammar.now.productions) (sym c.to_storage.ensures) (production_there c.args.grammar.now c.args.step.production c.requires.1.there)

pub split_at-requires : goal.split_at-requires
split_at-requires c = position_there c.args.grammar.now c.args.step c.requires.1.there c.to_storage.result c.to_storage.ensures c.prod-symbols.result.now c.prod-symbols.ensures.value c.requires.1.holds

pub write_nullable-requires : goal.write_nullable-requires
write_nullable-requires c =
    let Within = IsSymbolWithin (λ s. s) c.args.grammar.now in
    subst (All Within) (sym c.split_at.ensures.front) (All-take Within c.args.step.index c.prod-symbols.result.now c.prod-symbols.ensures.within)

pub to_storage-requires-2 : goal.to_storage-requires-2
to_storage-requires-2 c = rule_fits _ c.args.grammar.now c.args.step.rule c.invariant_holds.ensures
    (rule_there c.args.grammar.now c.args.step c.requires.1.there c.to_storage.result c.to_storage.ensures c.prod-symbols.result.now c.prod-symbols.ensures.value c.requires.1.holds c.prod-symbols.ensures.within)

pub rule_name_str-requires : goal.rule_name_str-requires
rule_name_str-requires c = subst (λ r. r < length c.args.grammar.now.rules) (sym c.to_storage-2.ensures)
    (rule_there c.args.grammar.now c.args.step c.requires.1.there c.to_storage.result c.to_storage.ensures c.prod-symbols.result.now c.prod-symbols.ensures.value c.requires.1.holds c.prod-symbols.ensures.within)

pub slice_bounds-write_nullable-count : goal.slice_bounds-write_nullable-count
slice_bounds-write_nullable-count c = some_after c.args.grammar.now c.args.step c.requires.1.there c.to_storage.result c.to_storage.ensures c.prod-symbols.result.now c.prod-symbols.ensures.value c.requires.1.holds c.split_at.result.1.now c.split_at.ensures.back

pub slice_bounds-write_nullable-start : goal.slice_bounds-write_nullable-start
slice_bounds-write_nullable-start c = some_after c.args.grammar.now c.args.step c.requires.1.there c.to_storage.result c.to_storage.ensures c.prod-symbols.result.now c.prod-symbols.ensures.value c.requires.1.holds c.split_at.result.1.now c.split_at.ensures.back

pub write_nullable-requires-2 : goal.write_nullable-requires-2
write_nullable-requires-2 c =
    let Within = IsSymbolWithin (λ s. s) c.args.grammar.now in
    All-take Within _ _ (All-drop Within 1 _ (subst (All Within) (sym c.split_at.ensures.back) (All-drop Within c.args.step.index c.prod-symbols.result.now c.prod-symbols.ensures.within)))

pub returns : goal.returns
returns c =
    let g = c.args.grammar.now in
    let there = c.requires.1.there in
    let named = ap (rule_name g) (sym c.to_storage-2.ensures) ∙ rule_named g c.to_storage-2.result c.rule_name_str.result.now c.rule_name_str.ensures in
    on_ok_weaker c.write_nullable-2.result
    (step_written g c.args.step _ _ c.rule_name_str.result.now _ _ _ _ _
    (prefix_shown g c.args.step there c.to_storage.result c.to_storage.ensures c.prod-symbols.result.now c.prod-symbols.ensures.value c.split_at.result.0.now c.split_at.ensures.front)
    (back_shown g c.args.step there c.to_storage.result c.to_storage.ensures c.prod-symbols.result.now c.prod-symbols.ensures.value c.split_at.result.1.now c.split_at.ensures.back)
    named c.in_ok-push_str.ensures.bytes c.in_ok-write_nullable.ensures c.in_ok-write.ensures.bytes)
    c.write_nullable-2.ensures
