use Rattle.std.proofs.Common.{rules, arith}
use Rattle.std.proofs.lemmas.Grind.{common_steps}
use Rattle.std.specs.Str.{IsCharBoundary}
use Rattle.cfgrender.proofs.Reported.{reported_of_offset, reported_of_none}
use Rattle.cfgrender.proofs.source.Source.push_reported.Goals as goal

pub returns-then-is_char_boundary : goal.returns-then-is_char_boundary
returns-then-is_char_boundary c =
    let source = c.args.self.now in
    let offset : IsCharBoundary source.text c.args.span.start = search rules in
    rw (reported_of_offset source.unit source.name.now source.text c.args.words.now c.args.span offset) (grind (arith, common_steps))

pub returns-else-is_char_boundary : goal.returns-else-is_char_boundary
returns-else-is_char_boundary c =
    let source = c.args.self.now in
    let none : IsCharBoundary source.text c.args.span.start → ⊥ = search rules in
    rw (reported_of_none source.unit source.name.now source.text c.args.words.now c.args.span none) (grind (arith, common_steps))
