use Rattle.std.proofs.Common.{refl}
use Rattle.cfgmarks.proofs.MarkLists.{held_ordered}
use Rattle.cfgmarks.proofs.markmap.iter.RefMarkMapIntoIterator.into_iter.Goals as goal

pub returns : goal.returns
returns g c = record { into_iter_gives = rw c.iter.ensures.rest (refl, held_ordered g.K.Ord.cmp _ c.iter.ensures.ordered) }
