use Rattle.std.proofs.Common.{arith, codes}
use Rattle.constructs.specs.Construct.{expect}
use Rattle.cfgerrors.specs.HeaderErrors.{ExpectedToken}
use Rattle.cfgsection.specs.SectionGrammar.{fault_at, white, entries}
use Rattle.constructs.proofs.Steps.{offset_on}
use Rattle.cfgsection.specs.Inner.Steps.{section_reader}
use Rattle.cfgsection.proofs.section.reader.Reader.braced.Goals as goal

pub end_fault-requires : goal.end_fault-requires
end_fault-requires c =
    let first = offset_on section_reader (expect (codes "{") (fault_at c.args.self.now.len (ExpectedToken 123))) (λ x. x) c.args.self.now c.expect.new.self c.in_ok-expect.field-0 c.in_ok-expect.ensures in
    let second = offset_on section_reader white (λ x. x) c.expect.new.self c.white.new.self c.white.result c.white.ensures in
    let third = offset_on section_reader (entries c.white.new.self.len) (λ x. x) c.white.new.self c.entries.new.self c.in_ok-entries.field-0 c.in_ok-entries.ensures in
    grind (arith, first, second, third, c.if-accept.ensures)
