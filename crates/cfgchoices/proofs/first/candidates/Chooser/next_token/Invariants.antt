use Rattle.std.proofs.Common.{map}
use Rattle.cfgtables.specs.NumberedSymbols.{sym_of}
use Rattle.cfgchoices.specs.Inner.Candidates.{left_to_open, candidates_of}
use Rattle.cfgchoices.proofs.Pending.{GoesOn}
use Rattle.cfgchoices.proofs.first.candidates.Chooser.next_token.Given as goal

abbrev pub invariant-loop-symbol : goal.invariant-loop-symbol
invariant-loop-symbol g l = GoesOn l.optimal.tables (candidates_of g.S.Storage.number l.self).choices (map (sym_of g.S.Storage.number) l.fn.pending.items) (map (sym_of g.S.Storage.number) l.pending.items)

abbrev pub decreases-loop-symbol : goal.decreases-loop-symbol
decreases-loop-symbol g l = left_to_open l.optimal.tables (candidates_of g.S.Storage.number l.self).choices (map (sym_of g.S.Storage.number) l.pending.items)
