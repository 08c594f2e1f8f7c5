use Rattle.std.proofs.Common.{length}
use Rattle.cfgitems.specs.SyntaxView.{head_view}
use Rattle.cfgreader.specs.Rules.{production}
use Rattle.constructs.proofs.Steps.{Gathers}
use Rattle.cfgreader.specs.Inner.Builds.{file_reader}
use Rattle.cfgreader.proofs.reader.Reader.productions.Given as goal

abbrev pub invariant-loop-parts : goal.invariant-loop-parts
invariant-loop-parts l = Gathers file_reader (λ len. production len (head_view l.head)) l.fn.self l.self

abbrev pub decreases-loop-parts : goal.decreases-loop-parts
decreases-loop-parts l = length l.self.rest.now
