use Rattle.std.proofs.Common.{sym, subst}
use Rattle.cfgnumbers.specs.Fits.{LeavesRoom}
use Rattle.cfgnumbers.specs.TablesView.{file_of}
use Rattle.cfgnumbers.proofs.numbering.Numbering.push_for_implicit.Goals as goal

pub push_implicit-requires-clause-implicit : goal.push_implicit-requires-clause-implicit
push_implicit-requires-clause-implicit g c = c.requires.implicit

pub push_implicit-requires-clause-room : goal.push_implicit-requires-clause-room
push_implicit-requires-clause-room g c = subst (λ implicit. LeavesRoom g.S.Storage.MAX implicit (file_of c.args.self.now)) (sym c.requires.own) c.requires.room

pub start_symbol-requires : goal.start_symbol-requires
start_symbol-requires g c = record {
  resolved = c.requires.resolved;
  room = subst (λ implicit. LeavesRoom g.S.Storage.MAX implicit (file_of c.args.self.now)) (sym c.requires.own) c.requires.room;
}
