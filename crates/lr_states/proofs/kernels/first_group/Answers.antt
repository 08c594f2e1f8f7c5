use Rattle.std.proofs.Common.{leb, rules, sym}
use Rattle.std.proofs.lemmas.List.Sorted.{IsPartitionPoint-from_clause, IsPartitionedBy-leb}
use Rattle.lr_states.specs.declared.successors.Step.{Step}
use Rattle.lr_states.proofs.Groups.{first_grouped}
use Rattle.lr_states.proofs.kernels.first_group.Goals as goal

pub returns : goal.returns
returns c =
    let steps = c.args.steps.now in
    let first = c.in_ok-symbol.field-0.now in
    let point = IsPartitionPoint-from_clause (λ (step : Step). leb step.symbol first.symbol) _ _ c.partition_point.ensures.partitioned
    (IsPartitionedBy-leb (λ (step : Step). step.symbol) steps first.symbol c.requires) (λ a r q k. search rules) in
    first_grouped steps c.requires first (sym c.in_ok-symbol.ensures.value) c.partition_point.result c.partition_point.ensures.bound point _ _
    c.split_at.ensures.front c.split_at.ensures.back
