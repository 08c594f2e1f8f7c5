use Rattle.std.proofs.Common.{◌≡◌, ltb, ◌∙◌, ap, rules}
use Rattle.std.proofs.lemmas.List.Sorted.{IsPartitionPoint-from_clause}
use Rattle.std.specs.List.Sorted.{IsPartitionedBy}
use Rattle.cfglines.specs.Lines.{newlines_of}
use Rattle.cfglines.proofs.Newlines.{IsPartitionedBy-newlines_of, newlines_of-partition_point}
use Rattle.cfglines.proofs.newlinecache.NewlineCache.newlines_before.Goals as goal

pub returns-clause-value : goal.returns-clause-value
returns-clause-value c text holds =
    let positions : c.deref.result.now ≡ newlines_of text = c.deref.ensures.value ∙ ap (λ kept. kept.newlines) c.self.view_is ∙ holds.newlines in
    let parted : IsPartitionedBy (λ offset. ltb offset c.args.byte) c.deref.result.now = rw positions (IsPartitionedBy-newlines_of text c.args.byte) in
    let point = IsPartitionPoint-from_clause (λ offset. ltb offset c.args.byte) _ _ c.partition_point.ensures.partitioned parted (λ a r q k. search rules) in
    newlines_of-partition_point text c.args.byte _ (rw positions at c.partition_point.ensures.bound) (rw positions at point)
