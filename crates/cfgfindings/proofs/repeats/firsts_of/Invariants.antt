use Rattle.cfgrammar.specs.Numbered.{core}
use Rattle.cfgfindings.specs.Inner.FirstProductions.{AreFirsts}
use Rattle.cfgfindings.proofs.FirstAlike.{AreKnown}
use Rattle.cfgfindings.proofs.repeats.firsts_of.Given as goal

abbrev pub invariant-loop-number : goal.invariant-loop-number
invariant-loop-number l = record {
  firsts : AreFirsts (core l.grammar) l.number l.firsts.items;
  known : AreKnown (core l.grammar) l.number l.known;
}
