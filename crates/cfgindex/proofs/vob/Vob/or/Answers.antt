use Rattle.std.proofs.Common.{subst, sym, ap, ◌∙◌}
use Rattle.cfgindex.specs.BitWords.{AreWords, bits_of}
use Rattle.cfgindex.proofs.Bits.{union}
use Rattle.cfgindex.proofs.vob.Vob.or.Goals as goal

pub or_words-requires : goal.or_words-requires
or_words-requires c = subst (λ n. AreWords n c.words.result.now) (sym c.requires) c.words.ensures.words

pub returns-clause-bits : goal.returns-clause-bits
returns-clause-bits c = c.or_words.ensures.bits
    ∙ ap (union c.args.self.now) (ap (bits_of c.words.result.now) c.requires ∙ c.words.ensures.bits)
