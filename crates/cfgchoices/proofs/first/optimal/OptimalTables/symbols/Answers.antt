use Rattle.std.proofs.Common.{◌<◌, length, sym, ap, subst, ◌∙◌}
use Rattle.cfgchoices.specs.Inner.Candidates.{Known, sequence}
use Rattle.cfgchoices.proofs.first.optimal.OptimalTables.symbols.Goals as goal

pub prod-requires : goal.prod-requires
prod-requires g c = subst (λ (k : Known). g.S.Storage.number c.args.p.0 < length k.tables.grammar.productions) (sym c.self.view_is) c.requires

pub returns : goal.returns
returns g c = c.prod.ensures ∙ ap (λ (k : Known). sequence k.tables (g.S.Storage.number c.args.p.0)) c.self.view_is
