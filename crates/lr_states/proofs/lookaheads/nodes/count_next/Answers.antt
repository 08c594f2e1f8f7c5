use Rattle.std.proofs.Common.{lt-ltb, ltb, rules}
use Rattle.std.proofs.lemmas.Bool.{ltb-true}
use Rattle.std.proofs.lemmas.List.Sorted.{IsPartitionPoint-from_clause}
use Rattle.lr_states.specs.declared.kernels.Target.{Target}
use Rattle.lr_states.proofs.Targets.{first_passes, targets_parted}
use Rattle.lr_states.proofs.lookaheads.nodes.count_next.Goals as goal

pub returns-clause-first : goal.returns-clause-first
returns-clause-first c i target at =
    let test = λ (target : Target). ltb target.symbol c.args.rules in
    let point = IsPartitionPoint-from_clause test _ _ c.partition_point.ensures.partitioned (targets_parted c.args.targets.now c.requires c.args.rules) (λ a r q k. search rules) in
    let first = first_passes test c.args.targets.now c.partition_point.result point i target at in
    ((λ low. first.0 (lt-ltb target.symbol c.args.rules low)), (λ early. ltb-true target.symbol c.args.rules (first.1 early)))
