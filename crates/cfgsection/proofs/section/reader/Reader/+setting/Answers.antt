use Rattle.std.proofs.Common.{[], ◌∷◌, codes, refl, sym, ◌∙◌}
use Rattle.std.proofs.lemmas.Result.{err_from_is_err_and}
use Rattle.cfgerrors.specs.HeaderErrors.{InvalidEntry}
use Rattle.cfgsection.proofs.SectionElements.{elements_start, elements_on, elements_smaller, elements_fail, elements_done, bracketed_refused, bracketed_built}
use Rattle.cfgsection.proofs.section.reader.Reader.+setting.Goals as goal

pub elements-elements-init : goal.elements-elements-init
elements-elements-init t c = elements_start c.args.room c.args.self.now _ c.new-values.ensures.items

pub elements-elements-smaller : goal.elements-elements-smaller
elements-elements-smaller t c = elements_smaller c.args.room c.elements.self c.element.new.self c.in_ok-value.value c.in_ok-value.ensures

pub elements-elements-preserved : goal.elements-elements-preserved
elements-elements-preserved t c = elements_on c.args.room c.elements.invariant c.element.new.self c.in_ok-value.value
    (sym c.goes_on_before.ensures ∙ c.elements-test.true) c.in_ok-value.ensures _ c.in_ok-push.ensures.items

pub elements-returns-in_err-value : goal.elements-returns-in_err-value
elements-returns-in_err-value t c =
    let p = err_from_is_err_and c.from_residual.result c.from_residual.ensures.1 in
    rw (p.1, p.2) (elements_fail c.args.room c.elements.invariant c.element.new.self _ (sym c.goes_on_before.ensures ∙ c.elements-test.true) c.in_err-value.ensures)

pub elements-returns : goal.elements-returns
elements-returns t c = elements_done c.args.room c.elements.invariant (sym c.goes_on_before.ensures ∙ c.elements-test.false) c.elements.values refl

pub bracketed-returns-then-room-eq0 : goal.bracketed-returns-then-room-eq0
bracketed-returns-then-room-eq0 t c =
    bracketed_refused c.args.self.now c.args.self.now c.args.room c.args.opens (record { kind = InvalidEntry (codes "nesting"); locations = c.args.opens ∷ [] }) c.if-room-eq0.true refl

pub bracketed-returns : goal.bracketed-returns
bracketed-returns t c = bracketed_built c.args.self.now c.array.new.self c.args.room c.args.opens c.array.result c.if-room-eq0.false c.array.ensures
