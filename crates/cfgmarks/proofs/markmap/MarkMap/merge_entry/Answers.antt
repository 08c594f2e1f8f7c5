use Rattle.std.proofs.Common.{is_some, sym, ap, ◌∙◌}
use Rattle.std.specs.Option.{option_copied_mut}
use Rattle.cfgmarks.specs.Marks.{marks}
use Rattle.cfgmarks.proofs.MarkEntries.{unchanged_by_write}
use Rattle.cfgmarks.proofs.StoredKeys.{stored_kept}
use Rattle.cfgmarks.proofs.markmap.MarkMap.merge_entry.Goals as goal

pub returns-in-Err-Convert-clause-err : goal.returns-in-Err-Convert-clause-err
returns-in-Err-Convert-clause-err g c =
    unchanged_by_write g.K.Ord.cmp (marks c.args.self.now) c.args.key c.in-Some.mine.now c.merge.new.self _ (sym c.get_mut.ensures.value ∙ ap option_copied_mut c.in-Some.is)
    c.in-Err-Convert.ensures.err (c.get_mut.follows.holds _).0

pub returns-in-Err-Conflict-clause-err : goal.returns-in-Err-Conflict-clause-err
returns-in-Err-Conflict-clause-err g c =
    unchanged_by_write g.K.Ord.cmp (marks c.args.self.now) c.args.key c.in-Some.mine.now c.merge.new.self _ (sym c.get_mut.ensures.value ∙ ap option_copied_mut c.in-Some.is)
    c.in-Err-Conflict.ensures.err (c.get_mut.follows.holds _).0

pub returns-in-Ok-clause-stored : goal.returns-in-Ok-clause-stored
returns-in-Ok-clause-stored g c q =
    stored_kept g.K.Ord.cmp g.met.K.Ord.total c.args.self.now.contents.entries _ c.args.key q (c.get_mut.follows.holds c.merge.new.self).1
    (ap is_some (sym c.get_mut.ensures.value ∙ ap option_copied_mut c.in-Some.is))

pub returns-in-None-clause-fault : goal.returns-in-None-clause-fault
returns-in-None-clause-fault g c = rw (sym c.get_mut.ensures.value ∙ ap option_copied_mut c.in-None.is) c.adopt.ensures.fault
