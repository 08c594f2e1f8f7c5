use Rattle.std.proofs.Common.{ℕ, List, map}
use Rattle.cfgtables.specs.NumberedSymbols.{sym_of}
use Rattle.cfgchoices.specs.Inner.Candidates.{Gives, Pends, left_to_open, candidates_of, sequence}
use Rattle.cfgchoices.proofs.Compared.{Rests}
use Rattle.cfgchoices.proofs.first.candidates.Chooser.compare.Given as goal

abbrev pub invariant-loop-others : goal.invariant-loop-others
invariant-loop-others g l = (u v : List ℕ) → Gives l.optimal.tables (candidates_of g.S.Storage.number l.self).choices (sequence l.optimal.tables (g.S.Storage.number l.fn.one.0)) u
    → Gives l.optimal.tables (candidates_of g.S.Storage.number l.self).choices (sequence l.optimal.tables (g.S.Storage.number l.fn.other.0)) v
    → Rests (Pends l.optimal.tables (candidates_of g.S.Storage.number l.self).choices (map (sym_of g.S.Storage.number) l.ones.items))
    (Pends l.optimal.tables (candidates_of g.S.Storage.number l.self).choices (map (sym_of g.S.Storage.number) l.others.items)) u v

abbrev pub decreases-loop-others : goal.decreases-loop-others
decreases-loop-others g l = left_to_open l.optimal.tables (candidates_of g.S.Storage.number l.self).choices (map (sym_of g.S.Storage.number) l.ones.items)
