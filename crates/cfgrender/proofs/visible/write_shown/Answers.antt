use Rattle.std.proofs.Common.{sym, arith}
use Rattle.std.proofs.lemmas.Grind.{common_steps}
use Rattle.cfgrender.proofs.Shown.{written_escape, written_itself}
use Rattle.cfgrender.proofs.visible.write_shown.Goals as goal

pub returns-then-is_escaped : goal.returns-then-is_escaped
returns-then-is_escaped g c = rw (sym (written_escape c.args.c (sym c.if-is_escaped.ensures))) (grind (arith, common_steps))

pub returns-else-is_escaped : goal.returns-else-is_escaped
returns-else-is_escaped g c = rw (sym (written_itself c.args.c (sym c.if-is_escaped.ensures))) c.write_char.ensures.writes
