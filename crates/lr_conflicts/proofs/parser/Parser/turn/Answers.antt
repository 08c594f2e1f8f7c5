use Rattle.std.proofs.Common.{sym, ◌∙◌, true≢false}
use Rattle.lr_states.proofs.Bits.{bit_read}
use Rattle.lr_conflicts.proofs.parser.Parser.turn.Goals as goal

pub returns-then-can_shift-clause-turn : goal.returns-then-can_shift-clause-turn
returns-then-can_shift-clause-turn c =
    let read = bit_read c.args.shifts.now c.args.token c.get.result c.unwrap_or-can_shift.result c.get.ensures c.unwrap_or-can_shift.ensures in
    record {
      within = c.requires.token;
      can = ((λ on. c.requires.shifts.0 (sym read ∙ on)), (λ can. read ∙ c.requires.shifts.1 can));
      taker = λ on. c.taker-taker.ensures;
    }

pub returns-else-can_shift-clause-turn : goal.returns-else-can_shift-clause-turn
returns-else-can_shift-clause-turn c =
    let read = bit_read c.args.shifts.now c.args.token c.get.result c.unwrap_or-can_shift.result c.get.ensures c.unwrap_or-can_shift.ensures in
    record {
      within = c.requires.token;
      can = ((λ on. c.requires.shifts.0 (sym read ∙ on)), (λ can. read ∙ c.requires.shifts.1 can));
      taker = λ on. absurd (true≢false (sym on ∙ c.if-can_shift.false));
    }
