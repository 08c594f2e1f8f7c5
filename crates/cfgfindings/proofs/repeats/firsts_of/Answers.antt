use Rattle.std.proofs.Common.{length, arith, ap, subst, sym}
use Rattle.cfgrammar.specs.Numbered.{core}
use Rattle.cfgfindings.specs.Inner.FirstProductions.{IsFirst}
use Rattle.cfgfindings.proofs.FirstAlike.{first_is, firsts_more, known_more, known_none, shapes_Decide}
use Rattle.cfgfindings.proofs.repeats.firsts_of.Goals as goal

pub loop-number-init : goal.loop-number-init
loop-number-init c = record {
  firsts = record { long = ap length c.in_ok-firsts.ensures.items; each = λ p before. absurd (omega arith) };
  known = known_none (core c.args.grammar.now) c.in_ok-known.known c.in_ok-known.ensures.empty;
}

pub loop-number-preserved : goal.loop-number-preserved
loop-number-preserved c =
    let g = core c.args.grammar.now in
    let n = c.loop-number.number in
    let shape = c.shape_of-shape.result in
    let is = c.shape_of-shape.ensures in
    let known = c.loop-number.known in
    let first = subst (IsFirst g n) (sym c.in_ok-first_known.ensures.first) (first_is g n shape is known c.loop-number.invariant.known) in
    record {
      firsts = firsts_more g n c.in_ok-first_known.field-0 c.loop-number.firsts.items c.push.new.self.items c.loop-number.invariant.firsts first c.in_ok-push.ensures.items;
      known = known_more g n shape is known c.loop-number.invariant.known (λ x y. shapes_Decide c.symbols_are_their_indices.ensures.equal x y)
          c.in_ok-first_known.field-0 first c.first_known.new.known c.in_ok-first_known.ensures.known;
    }
