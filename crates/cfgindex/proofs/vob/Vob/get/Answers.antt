use Rattle.std.proofs.Common.{Some, slice_get, length, ap, sym, ◌∙◌, arith}
use Rattle.std.proofs.lemmas.Option.{slice_get_past}
use Rattle.cfgindex.proofs.Words.{slice_get-bits_of, word_bit_read, length-bits_of}
use Rattle.cfgindex.proofs.vob.Vob.get.Goals as goal

pub returns-then-i-self : goal.returns-then-i-self
returns-then-i-self c =
    ap Some (c.has_bit.ensures ∙ word_bit_read _ _ _ _ c.self.invariant c.if-i-self.true c.index.ensures)
    ∙ sym (slice_get-bits_of c.self.inside.words.items c.self.inside.len c.args.i c.if-i-self.true) ∙ ap (λ l. slice_get l c.args.i) c.self.view_is

pub returns-else-i-self : goal.returns-else-i-self
returns-else-i-self c =
    let long = length-bits_of c.self.inside.words.items c.self.inside.len in
    sym (slice_get_past c.args.self.now c.args.i (omega (arith, c.if-i-self.false, long, ap length c.self.view_is)))
