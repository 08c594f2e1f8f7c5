use Rattle.std.proofs.Common.{sym, eq-eqb, ne_eqb, arith}
use Rattle.std.proofs.lemmas.Grind.{common_steps}
use Rattle.cfgrender.proofs.Carets.{under_other, under_tab}
use Rattle.cfgrender.proofs.excerpt.push_blank_under.Goals as goal

pub returns-then-c-eq9 : goal.returns-then-c-eq9
returns-then-c-eq9 c = rw (sym (under_tab c.args.c (eq-eqb c.args.c 9 c.if-c-eq9.true))) (grind (arith, common_steps))

pub returns-else-c-eq9 : goal.returns-else-c-eq9
returns-else-c-eq9 c =
    rw (sym (under_other c.args.c c.shown_width.result (ne_eqb c.args.c 9 c.if-c-eq9.false) c.shown_width.ensures)) (grind (arith, common_steps))
