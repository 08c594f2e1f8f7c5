use Rattle.std.proofs.Common.{ap}
use Rattle.cfgsection.proofs.SectionOne.{one_section, entries_read}
use Rattle.cfgsection.proofs.section.read.read.Goals as goal
use Rattle.cfgsection.proofs.section.read.read.Goals.{in-Ok, in-Err-Fault}

pub returns-in-Err-OutOfMemory-clause-one : goal.returns-in-Err-OutOfMemory-clause-one
returns-in-Err-OutOfMemory-clause-one c = one_section c.args.required c.args.text.now

pub returns-clause-one : goal.returns-clause-one
returns-clause-one c = one_section c.args.required c.args.text.now

pub returns-clause-entries : goal.returns-clause-entries
returns-clause-entries c =
    let made = c.new-reader.ensures in
    elim c.match-section.branch [
      | in-Ok w ↦ entries_read c.args.required c.args.text.now c.new-reader.result c.section.new.self _ made.offset.0 made.offset.1 made.entries w.in-Ok.ensures.2 (ap (λ v. v.items) c.into_entries.ensures)
      | in-Err-Fault w ↦
          let failed = rw w.in-Err-Fault.field-0-is at w.in-Err-Fault.ensures in
          entries_read c.args.required c.args.text.now c.new-reader.result c.section.new.self _ made.offset.0 made.offset.1 made.entries failed.1 (ap (λ v. v.items) c.into_entries.ensures)
    ]
