use Rattle.std.proofs.Common.{length}
use Rattle.constructs.specs.Construct.{while_test}
use Rattle.cfgreader.specs.Rules.{is_rule_next, rule}
use Rattle.constructs.proofs.Steps.{Gathers}
use Rattle.cfgreader.specs.Inner.Builds.{file_reader}
use Rattle.cfgreader.proofs.reader.Reader.rules.Given as goal

abbrev pub invariant-loop-kind : goal.invariant-loop-kind
invariant-loop-kind l = Gathers file_reader (λ len. while_test is_rule_next (rule len l.kind)) l.fn.self l.self

abbrev pub decreases-loop-kind : goal.decreases-loop-kind
decreases-loop-kind l = length l.self.rest.now
