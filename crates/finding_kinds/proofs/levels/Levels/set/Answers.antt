use Rattle.std.proofs.Common.{slice_set, ap, rules}
use Rattle.finding_kinds.proofs.ByKind.{set_by_kind}
use Rattle.finding_kinds.proofs.levels.Levels.set.Goals as goal

pub returns : goal.returns
returns c = set_by_kind c.args.self.now c.args.kind c.args.level (search rules) _ (ap (λ n. slice_set c.args.self.now.by_kind n c.args.level) c.number.ensures)
