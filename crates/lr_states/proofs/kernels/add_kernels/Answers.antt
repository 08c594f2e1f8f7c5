use Rattle.std.proofs.Common.{◌≡◌, ◌<◌, Global, Vec, length, map, subst, sym, ◌∙◌}
use Rattle.std.proofs.lemmas.List.{length-map}
use Rattle.lr_states.specs.declared.Item.{Item}
use Rattle.lr_states.specs.Inner.Kernels.{Adds, IsOne}
use Rattle.lr_states.specs.Inner.Steps.{items_of}
use Rattle.lr_states.proofs.Groups.{grouped_all, grouped_more, grouped_none}
use Rattle.lr_states.proofs.kernels.add_kernels.Goals as goal

pub loop-symbol-init : goal.loop-symbol-init
loop-symbol-init c = grouped_none c.args.steps.now c.requires _ c.new-targets.result.items c.new-targets.ensures.items

pub loop-symbol-preserved : goal.loop-symbol-preserved
loop-symbol-preserved c =
    let old = map (λ (key : Vec Item Global). key.items) c.loop-symbol.kernels.keys in
    let new = map (λ (key : Vec Item Global). key.items) c.add_kernel.new.kernels.keys in
    let kernel : c.in_ok-kernel_of.field-0.items ≡ items_of c.in-Some.group.now = c.in_ok-kernel_of.ensures in
    let within : c.in_ok-state.state < length new =
    subst (λ n. c.in_ok-state.state < n) (sym (length-map c.add_kernel.new.kernels.keys (λ (key : Vec Item Global). key.items))) c.in_ok-state.ensures.number in
    grouped_more _ _ _ old c.loop-symbol.targets.items c.loop-symbol.invariant c.in-Some.symbol c.in-Some.group.now c.in-Some.others.now c.in-Some.ensures new
    (subst (λ l. Adds (IsOne l) old new) kernel c.in_ok-state.ensures.adds) c.in_ok-state.state within (c.in_ok-state.ensures.is ∙ kernel)
    c.push.new.self.items c.in_ok-push.ensures.items

pub returns : goal.returns
returns c =
    let (adds, targets) = grouped_all _ _ _ _ _ c.loop-symbol.invariant c.in_default.ensures in
    record { adds = adds; targets = targets }
