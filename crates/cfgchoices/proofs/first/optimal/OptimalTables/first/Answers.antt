use Rattle.std.proofs.Common.{◌<◌, None, sym, subst, ◌∙◌}
use Rattle.std.proofs.lemmas.List.{get_or_default}
use Rattle.cfgchoices.specs.Inner.Lists.{AreLists, IsFirstFrom, IsIn, IsBaseAt}
use Rattle.cfgchoices.specs.Inner.Candidates.{HasList, Known}
use Rattle.cfgchoices.proofs.first.optimal.OptimalTables.first.Goals as goal

pub returns-in-Base : goal.returns-in-Base
returns-in-Base g c =
    let number = g.S.Storage.number in
    let x = c.args.self.now.tables in
    let lists = subst (λ (k : Known). AreLists number k.tables 0 c.self.inside.lists) c.self.view_is c.self.invariant.1 in
    let within = subst (λ (k : Known). c.in-Base.cost < k.limit) (sym c.self.view_is) (subst (HasList number c.args.self.now) c.in-Base.is c.requires) in
    subst (λ l. IsFirstFrom number (IsIn number x l) 0 c.index.result.now) (sym c.in-Base.is)
    (subst (IsFirstFrom number (IsBaseAt x c.in-Base.cost) 0) (sym (c.index.ensures ∙ get_or_default c.self.inside.lists.base.items c.in-Base.cost _ None within)) (lists.base.first c.in-Base.cost))
