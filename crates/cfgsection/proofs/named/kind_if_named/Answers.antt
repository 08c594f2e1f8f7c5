use Rattle.std.proofs.Common.{Err, Ok, map, ap, ◌∙◌}
use Rattle.std.proofs.lemmas.Result.{err_from_is_err_and}
use Rattle.cfgsection.specs.SectionReads.{entry_view, given}
use Rattle.cfgsection.proofs.KindIfNamed.{by_errors, by_none, by_some, naming_if}
use Rattle.cfgsection.proofs.NamedOffsets.{fault_at}
use Rattle.cfgkinds.specs.YaccKinds.{kind_namespace}
use Rattle.cfgsection.proofs.named.kind_if_named.Goals as goal

pub returns-in_err-entries-clause-naming : goal.returns-in_err-entries-clause-naming
returns-in_err-entries-clause-naming c =
    let p = err_from_is_err_and c.from_residual.result c.from_residual.ensures.1 in
    rw (p.1, p.2) (by_errors c.args.text.now _ c.in_err-entries.ensures.answer)

pub returns-then-is_none-clause-naming : goal.returns-then-is_none-clause-naming
returns-then-is_none-clause-naming c =
    let gives = c.entry_of-given.ensures ∙ ap (λ es. given (map entry_view es) kind_namespace) c.as_slice.ensures.value in
    by_none c.args.text.now c.in_ok-entries.entries c.in_ok-entries.rest c.in_ok-entries.ensures.answer c.entry_of-given.result _ gives c.is_none.ensures c.if-is_none.true

pub returns-in_err-kind-clause-naming : goal.returns-in_err-kind-clause-naming
returns-in_err-kind-clause-naming c =
    let gives = c.entry_of-given.ensures ∙ ap (λ es. given (map entry_view es) kind_namespace) c.as_slice.ensures.value in
    let p = err_from_is_err_and c.from_residual-in_err-kind.result c.from_residual-in_err-kind.ensures.1 in
    rw (p.1, p.2) (by_some c.args.text.now c.in_ok-entries.entries c.in_ok-entries.rest c.in_ok-entries.ensures.answer c.entry_of-given.result _ gives c.is_none.ensures c.if-is_none.false (Err c.in_err-kind.field-0.0) c.in_err-kind.ensures)

pub returns-in_err-kind-clause-offsets : goal.returns-in_err-kind-clause-offsets
returns-in_err-kind-clause-offsets c =
    let p = err_from_is_err_and c.from_residual-in_err-kind.result c.from_residual-in_err-kind.ensures.1 in
    let is = rw (p.1, p.2) at (returns-in_err-kind-clause-naming c) in
    rw (p.1, p.2) (fault_at c.args.text.now c.utf8.text (Err c.in_err-kind.field-0.0) (naming_if c.args.text.now c.in_err-kind.field-0.0 is))

pub returns-clause-naming : goal.returns-clause-naming
returns-clause-naming c =
    let gives = c.entry_of-given.ensures ∙ ap (λ es. given (map entry_view es) kind_namespace) c.as_slice.ensures.value in
    by_some c.args.text.now c.in_ok-entries.entries c.in_ok-entries.rest c.in_ok-entries.ensures.answer c.entry_of-given.result _ gives c.is_none.ensures c.if-is_none.false (Ok c.in_ok-kind.kind) c.in_ok-kind.ensures
