use Rattle.std.proofs.Common.{arith, sym, ◌∙◌, refl, Ok, Err, Some, None}
use Rattle.constructs.proofs.Agree.{leaves}
use Rattle.cfgreader.specs.Declarations.{is_listed}
use Rattle.cfgreader.specs.Inner.Lists.{listed_in}
use Rattle.cfgreader.specs.Inner.Builds.{file_reader}
use Rattle.constructs.proofs.Steps.{gathers_start, gathers_on, repeat_refused, repeat_done, while_builds, while_done}
use Rattle.cfgreader.proofs.reader.Reader.list.Goals as goal

pub loop-list-init : goal.loop-list-init
loop-list-init c = gathers_start c.args.self.now

pub loop-list-smaller : goal.loop-list-smaller
loop-list-smaller c = omega (arith, (leaves (listed_in c.loop-list.self.len c.args.list)).least c.loop-list.self.rest.now _ _ c.in_ok-listed.ensures.0)

pub loop-list-preserved : goal.loop-list-preserved
loop-list-preserved c = gathers_on c.loop-list.invariant c.listed.new.self Some tt
    (while_builds file_reader is_listed (λ len. listed_in len c.args.list) c.loop-list.self (λ x. x) c.listed.new.self (Ok tt) (sym c.is_listed.ensures ∙ c.loop-list-test.true) c.in_ok-listed.ensures) tt refl

pub returns-in_err-listed : goal.returns-in_err-listed
returns-in_err-listed c =
    repeat_refused c.loop-list.invariant c.listed.new.self c.from_residual.result _ c.from_residual.ensures.1
    (while_builds file_reader is_listed (λ len. listed_in len c.args.list) c.loop-list.self (λ x. x) c.listed.new.self (Err _) (sym c.is_listed.ensures ∙ c.loop-list-test.true) c.in_err-listed.ensures)

pub returns : goal.returns
returns c = repeat_done c.loop-list.invariant c.loop-list.self (λ (x : Unit {0}). None) tt
    (while_done file_reader is_listed (λ len. listed_in len c.args.list) c.loop-list.self (sym c.is_listed.ensures ∙ c.loop-list-test.false)) refl
