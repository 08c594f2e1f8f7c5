use Rattle.cfgsection.proofs.SectionRepeats.{one_more_error}
use Rattle.cfgsection.proofs.section.errors.errors_at.Goals as goal

pub loop-key-preserved : goal.loop-key-preserved
loop-key-preserved c = one_more_error c.args.offsets.now c.loop-key.yielded c.in-Some.key c.loop-key.errors.items _ c.push.new.self.items c.loop-key.invariant
    c.in_ok-push.ensures.items c.in_ok-locations.ensures
