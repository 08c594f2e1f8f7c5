use Rattle.std.proofs.Common.{◌≡◌, IfOk, subst}
use Rattle.cfgsets.specs.Work.{Notes}
use Rattle.cfganalysis.proofs.follows.FollowAnalysisAnalysis.note.Goals as goal

pub returns : goal.returns
returns g c = subst (λ n. IfOk c.note.result (λ _. Notes c.args.production (λ r. r ≡ n) c.args.dependents.now c.note.new.self)) c.from.ensures c.note.ensures
