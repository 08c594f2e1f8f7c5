use Rattle.std.proofs.Common.{length}
use Rattle.cfgchoices.specs.Inner.Candidates.{Nominating, candidates_of}
use Rattle.cfgchoices.proofs.Gone.{Gone, left_from}
use Rattle.cfgchoices.proofs.first.candidates.Chooser.nominate_listed.Given as goal

abbrev pub invariant-loop-next : goal.invariant-loop-next
invariant-loop-next g l = record {
  nominating : Nominating l.optimal (candidates_of g.S.Storage.number l.self);
  gone : Gone g.S.Storage.number l.optimal.tables l.fn.listed (candidates_of g.S.Storage.number l.fn.self) (candidates_of g.S.Storage.number l.self) l.next;
}

abbrev pub decreases-loop-next : goal.decreases-loop-next
decreases-loop-next g l = left_from g.S.Storage.number (length l.optimal.tables.grammar.productions) l.next
