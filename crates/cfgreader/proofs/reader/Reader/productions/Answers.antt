use Rattle.std.proofs.Common.{ap}
use Rattle.constructs.specs.Construct.{goes_on}
use Rattle.cfgitems.specs.SyntaxView.{head_view}
use Rattle.cfgreader.specs.Rules.{production}
use Rattle.cfgreader.specs.Inner.Builds.{file_reader}
use Rattle.constructs.proofs.Steps.{gathers_start, gathers_on, repeat_refused, repeat_done, turn_shorter}
use Rattle.cfgreader.proofs.reader.Reader.productions.Goals as goal

pub loop-parts-init : goal.loop-parts-init
loop-parts-init c =
    let begun = gathers_start {R = file_reader} {c = λ len. production len (head_view c.args.head)} c.args.self.now in
    record { values = begun.values; fixed = begun.fixed; items = begun.items; prefix = begun.prefix; grown = begun.grown }

pub loop-parts-smaller : goal.loop-parts-smaller
loop-parts-smaller c = turn_shorter file_reader (λ len. production len (head_view c.args.head)) goes_on c.loop-parts.self c.production.new.self c.in_ok-production.field-0 tt c.in_ok-production.ensures (ap goes_on c.if-branch.true)

pub loop-parts-preserved : goal.loop-parts-preserved
loop-parts-preserved c = gathers_on c.loop-parts.invariant c.production.new.self goes_on c.in_ok-production.field-0 c.in_ok-production.ensures tt (ap goes_on c.if-branch.true)

pub returns-in_err-production : goal.returns-in_err-production
returns-in_err-production c =
    repeat_refused c.loop-parts.invariant c.production.new.self c.from_residual.result _ c.from_residual.ensures.1 c.in_err-production.ensures

pub returns : goal.returns
returns c = repeat_done c.loop-parts.invariant c.production.new.self goes_on c.in_ok-production.field-0 c.in_ok-production.ensures (ap goes_on c.if-branch.false)
