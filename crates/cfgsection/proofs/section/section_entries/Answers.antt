use Rattle.std.proofs.Common.{◌≡◌, [], map, Err, ap, ◌∙◌, arith, rules}
use Rattle.std.proofs.lemmas.Grind.{common_steps}
use Rattle.cfgsection.specs.SectionErrors.{section_errors}
use Rattle.cfgsection.specs.SectionReads.{entry_view}
use Rattle.cfgsection.specs.Inner.Steps.{end_view}
use Rattle.cfgsection.specs.declared.section.header_fault.HeaderFault.TheVariants as faults
use Rattle.cfgsection.proofs.Refusals.{read_lists}
use Rattle.cfgsection.proofs.SectionResults.{read_fault}
use Rattle.cfgsection.proofs.SectionOne.{read_whole, read_stopped, read_repeated}
use Rattle.cfgsection.proofs.section.section_entries.Goals as goal

pub returns-in_default-clause-answer : goal.returns-in_default-clause-answer
returns-in_default-clause-answer c =
    let read = c.in_ok-entries in
    let found = c.in_ok-errors.ensures ∙ ap (λ es. section_errors (map entry_view es) (end_view read.end)) c.as_slice.ensures.value in
    read_stopped c.args.required c.args.text.now read.entries.items read.end c.in_ok-errors.errors read.ensures.entries read.ensures.end found c.in_default.field-0 c.in_default.is

pub returns-then-not-is_empty-clause-answer : goal.returns-then-not-is_empty-clause-answer
returns-then-not-is_empty-clause-answer c =
    let read = c.in_ok-entries in
    let found = c.in_ok-errors.ensures ∙ ap (λ es. section_errors (map entry_view es) (end_view read.end)) c.as_slice.ensures.value in
    read_repeated c.args.required c.args.text.now read.entries.items read.end c.in_ok-errors.errors read.ensures.entries read.ensures.end found c.in-Ok.rest c.in-Ok.is (λ none. grind (arith, common_steps, none))

pub returns-clause-answer : goal.returns-clause-answer
returns-clause-answer c =
    let read = c.in_ok-entries in
    let found = c.in_ok-errors.ensures ∙ ap (λ es. section_errors (map entry_view es) (end_view read.end)) c.as_slice.ensures.value in
    let none : c.in_ok-errors.errors.items ≡ [] = first_of (search rules, grind (arith, common_steps)) in
    read_whole c.args.required c.args.text.now read.entries.items read.end c.in_ok-errors.errors read.ensures.entries read.ensures.end found c.in-Ok.rest c.in-Ok.is none

pub returns-in_default-clause-fault_offsets : goal.returns-in_default-clause-fault_offsets
returns-in_default-clause-fault_offsets c =
    read_fault c.args.text.now c.in_ok-entries.ensures.utf8 c.args.required (Err (faults.Errors c.in_ok-errors.errors)) (returns-in_default-clause-answer c)

pub returns-then-not-is_empty-clause-fault_offsets : goal.returns-then-not-is_empty-clause-fault_offsets
returns-then-not-is_empty-clause-fault_offsets c =
    read_fault c.args.text.now c.in_ok-entries.ensures.utf8 c.args.required (Err (faults.Errors c.in_ok-errors.errors)) (returns-then-not-is_empty-clause-answer c)

pub returns-in_default-clause-listed : goal.returns-in_default-clause-listed
returns-in_default-clause-listed c =
    read_lists c.args.required c.args.text.now (Err (faults.Errors c.in_ok-errors.errors)) (returns-in_default-clause-answer c)

pub returns-then-not-is_empty-clause-listed : goal.returns-then-not-is_empty-clause-listed
returns-then-not-is_empty-clause-listed c =
    read_lists c.args.required c.args.text.now (Err (faults.Errors c.in_ok-errors.errors)) (returns-then-not-is_empty-clause-answer c)
