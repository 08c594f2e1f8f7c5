use Rattle.std.proofs.Common.{ap, ◌∙◌}
use Rattle.std.specs.BTreeMap.{is_at}
use Rattle.std.specs.Map.{lookup_key}
use Rattle.cfgmarks.proofs.StoredKeys.{stored_inserted}
use Rattle.cfgmarks.proofs.markmap.MarkMap.adopt.Goals as goal

pub returns-in-Ok-insert-clause-stored : goal.returns-in-Ok-insert-clause-stored
returns-in-Ok-insert-clause-stored g c q =
    ap (lookup_key (is_at (g.K.Ord.cmp q))) c.in-Ok-insert.ensures.entries
    ∙ stored_inserted g.K.Ord.cmp g.met.K.Ord.total c.args.self.now.contents.entries c.args.key c.in-Ok.marked q c.requires.absent
