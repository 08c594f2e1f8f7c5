use Rattle.std.proofs.Common.{◌<◌, false, length, get_or, sym, ap, subst, ◌∙◌, arith}
use Rattle.std.proofs.lemmas.List.{get_or_default}
use Rattle.cfgchoices.specs.Inner.Candidates.{Known, is_sole}
use Rattle.cfgchoices.proofs.first.optimal.OptimalTables.is_sole.Goals as goal

pub index-requires : goal.index-requires
index-requires g c =
    let known = c.self.invariant.0 in
    let lt : c.from.result < length c.self.inside.sole.items = subst (λ n. n < length c.self.inside.sole.items) (sym c.from.ensures) (subst (λ m. g.S.Storage.number c.args.rule.0 < m) (sym known.flags)
    (subst (λ (k : Known). g.S.Storage.number c.args.rule.0 < k.tables.grammar.rules) (sym c.self.view_is) c.requires)) in
    omega (arith, lt, c.self.inside.sole.ok.0)

pub returns : goal.returns
returns g c =
    let known = c.self.invariant.0 in
    let within = subst (λ m. g.S.Storage.number c.args.rule.0 < m) (sym known.flags)
    (subst (λ (k : Known). g.S.Storage.number c.args.rule.0 < k.tables.grammar.rules) (sym c.self.view_is) c.requires) in
    c.index.ensures ∙ ap (λ n. get_or c.self.inside.sole.items n c.index.result.now) c.from.ensures ∙ get_or_default c.self.inside.sole.items _ _ false within
    ∙ ap (λ (k : Known). is_sole k (g.S.Storage.number c.args.rule.0)) c.self.view_is
