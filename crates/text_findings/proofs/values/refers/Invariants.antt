use Rattle.std.proofs.Common.{◌≡◌, drop}
use Rattle.text_findings.specs.Values.{refers}
use Rattle.text_findings.specs.declared.references.Place.TheVariants.{Code}
use Rattle.text_findings.proofs.values.refers.Given as goal

-- the code so far doesn't refer to it
abbrev pub invariant-loop-offset : goal.invariant-loop-offset
invariant-loop-offset l = refers l.value l.place (drop l.offset l.code) ≡ refers l.value Code l.code
