use Rattle.std.proofs.Common.{sym, arith}
use Rattle.std.proofs.lemmas.Grind.{common_steps}
use Rattle.cfgrender.proofs.Carets.{under_shown}
use Rattle.cfgrender.proofs.excerpt.push_carets_under.Goals as goal

pub returns : goal.returns
returns c = rw (sym (under_shown c.args.c c.shown_width.result c.shown_width.ensures)) (grind (arith, common_steps))
