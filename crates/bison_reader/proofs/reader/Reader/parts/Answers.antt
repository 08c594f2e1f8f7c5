use Rattle.std.proofs.Common.{[], ◌∷◌, ◌++◌, sym, ap, ◌∙◌}
use Rattle.std.proofs.lemmas.Result.{err_from_is_err_and}
use Rattle.constructs.proofs.Steps.{gathers_start, gathers_on, many_done, many_stops, turn_shorter}
use Rattle.bison_reader.specs.Inner.Builds.{fault_of, word_reader}
use Rattle.bison_reader.specs.Rules.{part}
use Rattle.bison_reader.proofs.reader.Reader.parts.Goals as goal

pub loop-parts-init : goal.loop-parts-init
unfolding gathers_start
loop-parts-init c = (gathers_start c.args.self.now, sym c.new-parts.ensures.items)

pub loop-parts-smaller : goal.loop-parts-smaller
loop-parts-smaller c = turn_shorter word_reader part (λ x. x) c.loop-parts.self c.part.new.self c.in_ok-part.field-0 c.in-Some.part c.in_ok-part.ensures c.in-Some.is

pub loop-parts-preserved : goal.loop-parts-preserved
unfolding gathers_on
loop-parts-preserved c = (
  gathers_on c.loop-parts.invariant.0 c.part.new.self (λ x. x) c.in_ok-part.field-0 c.in_ok-part.ensures c.in-Some.part c.in-Some.is,
  ap (λ xs. xs ++ c.in-Some.part ∷ []) c.loop-parts.invariant.1 ∙ sym c.in_ok-push.ensures,
)

pub returns-in_err-part : goal.returns-in_err-part
returns-in_err-part c =
    let p = err_from_is_err_and c.from_residual.result c.from_residual.ensures.1 in
    rw (p.1, p.2) (many_stops c.loop-parts.invariant.0 c.part.new.self (fault_of c.in_err-part.field-0.0) c.in_err-part.ensures)

pub returns : goal.returns
returns c = many_done c.loop-parts.invariant.0 c.part.new.self (λ x. x) c.in_ok-part.field-0 c.in_ok-part.ensures (λ x. x.items) c.loop-parts.parts c.loop-parts.invariant.1 c.in_default.is
