use Rattle.std.proofs.Common.{refl, sym, subst, arith}
use Rattle.bison_words.proofs.QuotedLoop.{Quotes, quotes_start, quotes_smaller, quotes_on, quotes_done}
use Rattle.bison_words.proofs.scanner.Scanner.quoted.Goals as goal

pub loop-part-init : goal.loop-part-init
loop-part-init c = quotes_start c.args.close.now c.args.self.now (omega arith, refl)

pub loop-part-smaller : goal.loop-part-smaller
loop-part-smaller c = quotes_smaller c.args.close.now c.args.self.now c.loop-part.self c.quoted_part.new.self c.loop-part.parts c.in_ok-part.field-0 c.loop-part.invariant c.in_ok-part.ensures.read c.in-Some.part c.in-Some.is

pub loop-part-preserved : goal.loop-part-preserved
loop-part-preserved c = subst (Quotes c.args.close.now c.args.self.now c.quoted_part.new.self) (sym c.with_part-parts.ensures)
    (quotes_on c.args.close.now c.args.self.now c.loop-part.self c.quoted_part.new.self c.loop-part.parts c.in_ok-part.field-0 c.loop-part.invariant c.in_ok-part.ensures.read c.in-Some.part c.in-Some.is c.in_ok-part.ensures.passed)

pub returns-clause-read : goal.returns-clause-read
returns-clause-read c = quotes_done c.args.close.now c.args.self.now c.loop-part.self c.quoted_part.new.self c.loop-part.parts c.in_ok-part.field-0 c.loop-part.invariant c.in_ok-part.ensures.read c.in_default.is
