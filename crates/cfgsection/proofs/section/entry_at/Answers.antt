use Rattle.std.proofs.Common.{Ok, Err, length, drop, rules}
use Rattle.cfgsection.specs.declared.section.header_fault.HeaderFault.TheVariants as faults
use Rattle.cfgsection.proofs.Refusals.{entry_lists}
use Rattle.cfgsection.proofs.SectionResults.{by_entry_readings, entry_located, entry_refused}
use Rattle.cfgsection.proofs.section.entry_at.Goals as goal

pub returns-in-Ok-clause-answer : goal.returns-in-Ok-clause-answer
returns-in-Ok-clause-answer c =
    by_entry_readings (length c.args.text.now) (drop c.args.i c.args.text.now) (Ok (c.in-Ok.entry.key, c.in-Ok.entry.key_span, c.in-Ok.entry.value, c.offset.result)) (search rules)

pub returns-in-Ok-clause-offsets : goal.returns-in-Ok-clause-offsets
returns-in-Ok-clause-offsets c =
    entry_located c.args.text.now c.utf8.text c.args.i c.requires
    (Ok (c.in-Ok.entry.key, c.in-Ok.entry.key_span, c.in-Ok.entry.value, c.offset.result)) (returns-in-Ok-clause-answer c)

pub returns-clause-answer : goal.returns-clause-answer
returns-clause-answer c = by_entry_readings (length c.args.text.now) (drop c.args.i c.args.text.now) (Err (faults.Errors c.push.new.self)) (search rules)

pub returns-clause-fault_offsets : goal.returns-clause-fault_offsets
returns-clause-fault_offsets c =
    entry_refused c.args.text.now c.utf8.text c.args.i c.requires (Err (faults.Errors c.push.new.self)) (returns-clause-answer c)

pub returns-clause-listed : goal.returns-clause-listed
returns-clause-listed c =
    entry_lists (length c.args.text.now) (drop c.args.i c.args.text.now) (Err (faults.Errors c.push.new.self)) (returns-clause-answer c)
