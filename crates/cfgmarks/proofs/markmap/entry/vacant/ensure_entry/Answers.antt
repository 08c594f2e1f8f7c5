use Rattle.std.proofs.Common.{◌≡◌, None, is_some, ap, rules}
use Rattle.cfgmarks.specs.Marks.{marks, entry_at}
use Rattle.cfgmarks.proofs.MarkEntries.{added_is, changed_after_adding}
use Rattle.cfgmarks.proofs.markmap.entry.vacant.ensure_entry.Goals as goal

pub returns-in_ok-add_unmarked-in-Ok-clause-there : goal.returns-in_ok-add_unmarked-in-Ok-clause-there
returns-in_ok-add_unmarked-in-Ok-clause-there g c =
    ap is_some (added_is g.K.Ord.cmp g.met.K.Ord.total (marks c.args.map.now) (marks c.add_unmarked.new.self) c.args.key c.in-Ok.copy c.in-Ok.ensures c.in_ok-add_unmarked-in-Ok.ensures.ok)

pub returns-in_ok-add_unmarked-in-Ok-clause-map : goal.returns-in_ok-add_unmarked-in-Ok-clause-map
returns-in_ok-add_unmarked-in-Ok-clause-map g c =
    let absent : entry_at g.K.Ord.cmp (marks c.args.map.now) c.args.key ≡ None = search rules in
    changed_after_adding g.K.Ord.cmp g.met.K.Ord.total (marks c.args.map.now) (marks c.add_unmarked.new.self) c.args.key c.in-Ok.copy c.in-Ok.ensures
    c.in_ok-add_unmarked-in-Ok.ensures.ok absent
