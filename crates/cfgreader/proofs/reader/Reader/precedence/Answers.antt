use Rattle.std.proofs.Common.{arith, true}
use Rattle.std.proofs.lemmas.Grind.{common_steps}
use Rattle.constructs.proofs.Steps.{offset_on}
use Rattle.cfgitems.specs.SyntaxView.{token_view}
use Rattle.cfgreader.specs.Here.{blank_here}
use Rattle.cfgreader.specs.Inner.Builds.{file_reader}
use Rattle.cfgreader.specs.Rules.{PrecedencePart, precedence}
use Rattle.cfgreader.proofs.reader.Reader.precedence.Goals as goal

pub returns : goal.returns
unfolding precedence
returns c =
    let passed = offset_on file_reader (blank_here c.args.self.now.len true) (λ x. x) c.args.self.now c.blank.new.self tt c.in_ok-blank.ensures in
    (PrecedencePart (token_view c.in_ok-token.token), grind (arith, common_steps), c.in_ok-add.ensures, omega (arith, passed, c.in_ok-token.ensures.after))
