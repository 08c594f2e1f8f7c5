use Rattle.std.proofs.Common.{sym, ap, ◌∙◌, ◌&&◌, ◌+◌, ◌<◌, drop, get_or, length, subst}
use Rattle.cfgkinds.specs.Values.{settings_view}
use Rattle.cfgkinds.specs.SameValues.{same_settings}
use Rattle.cfgkinds.proofs.SameLemmas.{one_left, other_lengths}
use Rattle.cfgkinds.proofs.same.+is_same.Goals as goal

pub are_same-returns-then-len : goal.are_same-returns-then-len
are_same-returns-then-len g t c =
    sym (other_lengths g.T.PartialEq.eq c.args.settings.now.items c.args.others.now.items (λ e. c.if-len.true (c.len.ensures ∙ c.args.settings.now.ok.0 ∙ e ∙ sym c.args.others.now.ok.0 ∙ sym c.len-2.ensures)))

pub are_same-returns-then-not-is_same : goal.are_same-returns-then-not-is_same
are_same-returns-then-not-is_same g t c =
    let eq = g.T.PartialEq.eq in
    let i = c.loop-index.index in
    let items = c.deref-setting-items.ensures.value in
    let within = subst (λ xs. i < length xs) items c.loop-index-test.true in
    let inside = subst (λ n. i < n) (sym c.args.settings.now.ok.0 ∙ sym c.len.ensures ∙ c.if-len.false ∙ c.len-2.ensures ∙ c.args.others.now.ok.0) within in
    let there = c.setting-item.is ∙ ap (λ xs. get_or xs i c.setting-item.result) items in
    let rest = same_settings eq (settings_view (drop (i + 1) c.args.settings.now.items)) (settings_view (drop (i + 1) c.args.others.now.items)) in
    sym (c.loop-index.invariant ∙ one_left eq c.args.settings.now.items c.args.others.now.items i c.setting-item.result c.index.result.now within inside there c.index.ensures
    ∙ ap (λ b. b && rest) (sym c.is_same.ensures ∙ c.if-not-is_same.true))

pub are_same-loop-index-preserved : goal.are_same-loop-index-preserved
are_same-loop-index-preserved g t c =
    let eq = g.T.PartialEq.eq in
    let i = c.loop-index.index in
    let items = c.deref-setting-items.ensures.value in
    let within = subst (λ xs. i < length xs) items c.loop-index-test.true in
    let inside = subst (λ n. i < n) (sym c.args.settings.now.ok.0 ∙ sym c.len.ensures ∙ c.if-len.false ∙ c.len-2.ensures ∙ c.args.others.now.ok.0) within in
    let there = c.setting-item.is ∙ ap (λ xs. get_or xs i c.setting-item.result) items in
    let rest = same_settings eq (settings_view (drop (i + 1) c.args.settings.now.items)) (settings_view (drop (i + 1) c.args.others.now.items)) in
    c.loop-index.invariant ∙ one_left eq c.args.settings.now.items c.args.others.now.items i c.setting-item.result c.index.result.now within inside there c.index.ensures
    ∙ ap (λ b. b && rest) (sym c.is_same.ensures ∙ c.if-not-is_same.false)
