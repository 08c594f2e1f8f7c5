use Rattle.std.proofs.Common.{Some}
use Rattle.std.proofs.lemmas.List.{map-set}
use Rattle.cfgleast.specs.Certificate.{choice_of}
use Rattle.cfgleast.proofs.settle.Settled.settle.Goals as goal

pub returns-clause-choices : goal.returns-clause-choices
returns-clause-choices g c = map-set (choice_of g.S.Storage.number) c.args.self.now.choices.items c.args.rule (Some (c.args.p, c.args.self.now.number))
