use Rattle.lr_states.proofs.Bits.{bit_read}
use Rattle.lr_conflicts.proofs.parser.Reduction.looks_at.Goals as goal

pub returns : goal.returns
returns c = bit_read c.args.self.now.tokens.now c.args.token c.get.result c.unwrap_or.result c.get.ensures c.unwrap_or.ensures
