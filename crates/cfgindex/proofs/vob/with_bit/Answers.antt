use Rattle.std.proofs.Common.{if◌then◌else◌, ap, sym, ◌∙◌, w64}
use Rattle.std.proofs.lemmas.Nat.Bits.{bit_at_set_same, bit_at_set_other, bit_at_clear_same, bit_at_clear_other}
use Rattle.cfgindex.proofs.vob.with_bit.Goals as goal

pub returns-then-bit-clause-here : goal.returns-then-bit-clause-here
returns-then-bit-clause-here c = bit_at_set_same w64 c.args.word c.args.i c.requires ∙ ap (λ b. if b then 1 else 0) (sym c.if-bit.true)

pub returns-then-bit-clause-others : goal.returns-then-bit-clause-others
returns-then-bit-clause-others c = λ k h ne. bit_at_set_other w64 c.args.word c.args.i c.requires k ne

pub returns-else-bit-clause-here : goal.returns-else-bit-clause-here
returns-else-bit-clause-here c = bit_at_clear_same w64 c.args.word c.args.i c.requires ∙ ap (λ b. if b then 1 else 0) (sym c.if-bit.false)

pub returns-else-bit-clause-others : goal.returns-else-bit-clause-others
returns-else-bit-clause-others c = λ k h ne. bit_at_clear_other w64 c.args.word c.args.i c.requires k h ne
