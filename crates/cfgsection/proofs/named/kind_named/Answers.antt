use Rattle.std.proofs.Common.{Err, Ok, map, ap, ◌∙◌}
use Rattle.std.proofs.lemmas.Result.{err_from_is_err_and}
use Rattle.cfgsection.specs.Named.{IsNaming, Names, Naming}
use Rattle.cfgsection.specs.SectionReads.{entry_view, given}
use Rattle.cfgsection.proofs.KindIfNamed.{after_section}
use Rattle.cfgsection.proofs.NamedLemmas.{one_naming, refused, answered}
use Rattle.cfgsection.proofs.NamedOffsets.{fault_at}
use Rattle.cfgkinds.specs.YaccKinds.{kind_namespace}
use Rattle.cfgsection.proofs.named.kind_named.Goals as goal

pub returns-in_err-entries-clause-one : goal.returns-in_err-entries-clause-one
returns-in_err-entries-clause-one c = one_naming c.args.text.now

pub returns-in_err-kind-clause-one : goal.returns-in_err-kind-clause-one
returns-in_err-kind-clause-one c = one_naming c.args.text.now

pub returns-clause-one : goal.returns-clause-one
returns-clause-one c = one_naming c.args.text.now

pub returns-in_err-entries-clause-naming : goal.returns-in_err-entries-clause-naming
returns-in_err-entries-clause-naming c =
    let p = err_from_is_err_and c.from_residual.result c.from_residual.ensures.1 in
    rw (p.1, p.2) (refused c.args.text.now _ c.in_err-entries.ensures.answer)

-- the value given for the key is not a kind
refused_value : (c : goal.After-drop-entries) (naming : Naming) → Names c.args.text.now naming → IsNaming naming (Err c.in_err-kind.field-0.0)
refused_value c =
    let gives = c.entry_of.ensures ∙ ap (λ es. given (map entry_view es) kind_namespace) c.as_slice.ensures.value in
    answered c.args.text.now c.in_ok-entries.entries c.in_ok-entries.rest c.entry_of.result (Err c.in_err-kind.field-0.0) c.in_ok-entries.ensures.answer gives c.in_err-kind.ensures

pub returns-in_err-kind-clause-naming : goal.returns-in_err-kind-clause-naming
returns-in_err-kind-clause-naming c =
    let p = err_from_is_err_and c.from_residual-in_err-kind.result c.from_residual-in_err-kind.ensures.1 in
    rw (p.1, p.2) (refused_value c)

pub returns-in_err-kind-clause-offsets : goal.returns-in_err-kind-clause-offsets
returns-in_err-kind-clause-offsets c =
    let p = err_from_is_err_and c.from_residual-in_err-kind.result c.from_residual-in_err-kind.ensures.1 in
    rw (p.1, p.2) (fault_at c.args.text.now c.utf8.text (Err c.in_err-kind.field-0.0) (refused_value c))

pub returns-clause-naming : goal.returns-clause-naming
returns-clause-naming c =
    let gives = c.entry_of.ensures ∙ ap (λ es. given (map entry_view es) kind_namespace) c.as_slice.ensures.value in
    answered c.args.text.now c.in_ok-entries.entries c.in_ok-entries.rest c.entry_of.result (Ok c.in_ok-kind.kind) c.in_ok-entries.ensures.answer gives c.in_ok-kind.ensures

pub returns-clause-rest : goal.returns-clause-rest
returns-clause-rest c = (_, after_section c.args.text.now _ c.in_ok-entries.rest.now c.in_ok-entries.ensures.answer)
