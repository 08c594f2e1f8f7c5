use Rattle.std.proofs.Common.{ap, rules}
use Rattle.cfgmarks.proofs.markmap.MarkMap.insert.Goals as goal

pub returns-in-Ok-clause-ok : goal.returns-in-Ok-clause-ok
returns-in-Ok-clause-ok g c = search rules

pub returns-in-Ok-clause-old : goal.returns-in-Ok-clause-old
returns-in-Ok-clause-old g c = search rules

pub returns-in-Err-clause-handed_back : goal.returns-in-Err-clause-handed_back
returns-in-Err-clause-handed_back g c = ap (λ key. (key, c.args.value)) c.in-Err.ensures.value_returned
