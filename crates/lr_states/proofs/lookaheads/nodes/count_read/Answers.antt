use Rattle.std.proofs.Common.{lt-ltb, ltb, rules}
use Rattle.std.proofs.lemmas.Bool.{ltb-true}
use Rattle.std.proofs.lemmas.List.Sorted.{IsPartitionPoint-from_clause}
use Rattle.lr_states.specs.declared.Item.{Item}
use Rattle.lr_states.proofs.Places.{reads_parted}
use Rattle.lr_states.proofs.Targets.{first_passes}
use Rattle.lr_states.proofs.lookaheads.nodes.count_read.Goals as goal

pub returns-clause-first : goal.returns-clause-first
returns-clause-first c i item at =
    let test = λ (item : Item). ltb 0 item.read in
    let point = IsPartitionPoint-from_clause test _ _ c.partition_point.ensures.partitioned (reads_parted c.args.items.now c.requires) (λ a r q k. search rules) in
    let first = first_passes test c.args.items.now c.partition_point.result point i item at in
    ((λ some. first.0 (lt-ltb 0 item.read some)), (λ early. ltb-true 0 item.read (first.1 early)))
