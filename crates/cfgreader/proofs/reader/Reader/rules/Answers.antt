use Rattle.std.proofs.Common.{arith, sym, ◌∙◌, refl, Ok, Err, Some, None}
use Rattle.constructs.proofs.Agree.{leaves}
use Rattle.cfgreader.specs.Rules.{is_rule_next, rule}
use Rattle.cfgreader.specs.Inner.Builds.{file_reader}
use Rattle.constructs.proofs.Steps.{gathers_start, gathers_on, repeat_refused, repeat_done, while_builds, while_done}
use Rattle.cfgreader.proofs.reader.Reader.rules.Goals as goal

pub loop-kind-init : goal.loop-kind-init
loop-kind-init c = gathers_start c.args.self.now

pub loop-kind-smaller : goal.loop-kind-smaller
loop-kind-smaller c = omega (arith, (leaves (rule c.loop-kind.self.len c.args.kind)).least c.loop-kind.self.rest.now _ _ c.in_ok-rule.ensures.0)

pub loop-kind-preserved : goal.loop-kind-preserved
loop-kind-preserved c = gathers_on c.loop-kind.invariant c.rule.new.self Some tt
    (while_builds file_reader is_rule_next (λ len. rule len c.args.kind) c.loop-kind.self (λ x. x) c.rule.new.self (Ok tt) (sym c.is_rule_next.ensures ∙ c.loop-kind-test.true) c.in_ok-rule.ensures) tt refl

pub returns-in_err-rule : goal.returns-in_err-rule
returns-in_err-rule c =
    repeat_refused c.loop-kind.invariant c.rule.new.self c.from_residual.result _ c.from_residual.ensures.1
    (while_builds file_reader is_rule_next (λ len. rule len c.args.kind) c.loop-kind.self (λ x. x) c.rule.new.self (Err _) (sym c.is_rule_next.ensures ∙ c.loop-kind-test.true) c.in_err-rule.ensures)

pub returns : goal.returns
returns c = repeat_done c.loop-kind.invariant c.loop-kind.self (λ (x : Unit {0}). None) tt
    (while_done file_reader is_rule_next (λ len. rule len c.args.kind) c.loop-kind.self (sym c.is_rule_next.ensures ∙ c.loop-kind-test.false)) refl
