use Rattle.std.proofs.Common.{length, sym, ap, ◌∙◌}
use Rattle.cfgindex.proofs.Words.{length-bits_of}
use Rattle.cfgindex.proofs.vob.Vob.len.Goals as goal

pub returns : goal.returns
returns c = sym (length-bits_of c.self.inside.words.items c.self.inside.len) ∙ ap length c.self.view_is
