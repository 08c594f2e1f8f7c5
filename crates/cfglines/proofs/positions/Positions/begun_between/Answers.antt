use Rattle.std.proofs.Common.{◌≡◌, ◌+◌, take, count_by, ap, ◌∙◌, arith}
use Rattle.std.specs.List.{slice_range}
use Rattle.cfglines.specs.Characters.{begins_character}
use Rattle.cfglines.proofs.Counts.{begun_up_to}
use Rattle.cfglines.proofs.positions.Positions.begun_between.Goals as goal
use Rattle.cfglines.proofs.positions.Positions.begun_between.Goals.{After-begun_before}

parts : (c : After-begun_before)
    → c.begun_before-before.result + count_by begins_character (slice_range c.args.self.now c.args.start c.args.end) ≡ c.begun_before.result
parts c =
    let text = c.as_bytes-text.ensures.value ∙ c.self.view_is in
    let before = c.begun_before-before.ensures ∙ ap (λ bytes. count_by begins_character (take c.args.start bytes)) text in
    let all = c.begun_before.ensures ∙ ap (λ bytes. count_by begins_character (take c.args.end bytes)) text in
    omega (arith, begun_up_to c.args.self.now c.args.start c.args.end c.requires.order)

pub overflow_sub-result : goal.overflow_sub-result
overflow_sub-result c = omega (arith, parts c)

pub returns-in-Some : goal.returns-in-Some
returns-in-Some c = omega (arith, parts c)
