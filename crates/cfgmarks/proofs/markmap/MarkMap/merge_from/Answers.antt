use Rattle.std.proofs.Common.{sym, subst}
use Rattle.std.proofs.lemmas.Result.{err_from_is_err_and}
use Rattle.cfgmarks.specs.Marks.{marks}
use Rattle.cfgmarks.specs.Merging.{KeepsStored}
use Rattle.cfgmarks.proofs.StoredKeys.{stored_step, keeps_stored}
use Rattle.cfgmarks.proofs.MergeSteps.{reached, one_more, merged_step, stops_at, expected_callable}
use Rattle.cfgmarks.proofs.markmap.MarkMap.merge_from.Goals as goal

pub merge_entry-requires : goal.merge_entry-requires
merge_entry-requires g c =
    let at_key = reached g.K.Ord.cmp g.met.K.Ord.total _ {now = marks c.loop-key.self} {theirs = marks c.args.other} c.loop-key.invariant.given c.in-Some.ensures.steps
    c.into_iter-key-iterator.ensures.into_iter_gives.5 c.loop-key.invariant.merged in
    expected_callable g.K.Ord.cmp g.met.K.Ord.total _ at_key c.requires

pub loop-key-preserved : goal.loop-key-preserved
loop-key-preserved g c =
    let at_key = reached g.K.Ord.cmp g.met.K.Ord.total _ {now = marks c.loop-key.self} {theirs = marks c.args.other} c.loop-key.invariant.given c.in-Some.ensures.steps
    c.into_iter-key-iterator.ensures.into_iter_gives.5 c.loop-key.invariant.merged in
    record {
      given = one_more g.K.Ord.cmp g.met.K.Ord.total _ at_key;
      merged = merged_step g.K.Ord.cmp g.met.K.Ord.total _ at_key (marks c.merge_entry.new.self) c.in_ok-merge_entry.ensures.ok;
      stored =
          stored_step g.K.Ord.cmp g.met.K.Ord.total (marks c.args.self.now) (marks c.loop-key.self) (marks c.merge_entry.new.self) c.loop-key.yielded c.in-Some.key c.in-Some.theirs c.loop-key.invariant.stored
          c.in_ok-merge_entry.ensures.stored;
    }

pub returns-in_err-merge_entry-clause-fault : goal.returns-in_err-merge_entry-clause-fault
returns-in_err-merge_entry-clause-fault g c =
    let at_key = reached g.K.Ord.cmp g.met.K.Ord.total _ {now = marks c.loop-key.self} {theirs = marks c.args.other} c.loop-key.invariant.given c.in-Some.ensures.steps
    c.into_iter-key-iterator.ensures.into_iter_gives.5 c.loop-key.invariant.merged in
    let p = err_from_is_err_and c.from_residual.result c.from_residual.ensures.1 in
    rw (p.1, p.2) (stops_at g.K.Ord.cmp g.met.K.Ord.total _ {mine = marks c.args.self.now} at_key _ c.in_err-merge_entry.field-0.0 (marks c.merge_entry.new.self) c.in_err-merge_entry.ensures.err c.in_err-merge_entry.ensures.fault)

pub returns-in_err-merge_entry-clause-stored : goal.returns-in_err-merge_entry-clause-stored
returns-in_err-merge_entry-clause-stored g c =
    subst (KeepsStored g.K.Ord.cmp (marks c.args.self.now) (marks c.args.other)) (sym c.in_err-merge_entry.ensures.err)
    (keeps_stored g.K.Ord.cmp g.met.K.Ord.total (marks c.args.self.now) (marks c.args.other) (marks c.loop-key.self) c.loop-key.yielded c.loop-key.key-iterator c.loop-key.invariant.given c.loop-key.invariant.stored)

pub returns-clause-stored : goal.returns-clause-stored
returns-clause-stored g c =
    keeps_stored g.K.Ord.cmp g.met.K.Ord.total (marks c.args.self.now) (marks c.args.other) (marks c.loop-key.self) c.loop-key.yielded c.loop-key.key-iterator c.loop-key.invariant.given c.loop-key.invariant.stored
