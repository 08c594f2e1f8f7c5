use Rattle.std.proofs.Common.{map, length}
use Rattle.cfgtables.specs.NumberedSymbols.{sym_of}
use Rattle.cfgsets.proofs.FollowVisits.{Flowing}
use Rattle.cfgsets.proofs.Gathering.{HasLookahead}
use Rattle.cfgsets.proofs.follows.GrowingFollows.add_production.Given as goal

abbrev pub invariant-loop-index : goal.invariant-loop-index
invariant-loop-index g l = record {
  flowing : Flowing (g.S.Storage.number l.rule.0) (map (sym_of g.S.Storage.number) l.symbols) l.index l.fn.self l.self l.fn.grown l.grown;
  has_lookahead : HasLookahead g.S.Storage.number (g.S.Storage.number l.rule.0) (map (sym_of g.S.Storage.number) l.symbols) l.index (length l.fn.gathered)
      l.fn.self l.self l.lookahead l.gathered;
}
