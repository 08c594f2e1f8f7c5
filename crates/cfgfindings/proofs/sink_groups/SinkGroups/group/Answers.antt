use Rattle.std.proofs.Common.{◌<◌, length, sym, subst}
use Rattle.cfgrammar.specs.Numbered.{Numbered}
use Rattle.cfgfindings.specs.Inner.SinkGroups.{AreGroupOf}
use Rattle.cfgfindings.proofs.SinkGroups.{has_group, sink_at, rules_at}
use Rattle.cfgfindings.proofs.sink_groups.SinkGroups.group.Goals as goal

pub returns-in-Some-index : goal.returns-in-Some-index
returns-in-Some-index c =
    let h = c.self.inside.unproductive.now in
    let view = c.self.view_is in
    let lt = subst (λ (n : Numbered). c.args.rule < length n.rules) (sym view) c.requires in
    let sink = sink_at h c.self.inside.groups.items c.self.inside.firsts.items c.self.invariant c.args.rule lt c.in-Some.first c.index.result.now c.index.ensures c.in-Some.is in
    subst (λ (n : Numbered). AreGroupOf n c.args.rule c.deref.result.now) view
    (subst (AreGroupOf h c.args.rule) (sym c.deref.ensures.value)
    (rules_at h c.self.inside.groups.items c.args.rule c.in-Some.first sink c.index-in-Some.result.now c.in-Some-index.group c.index-in-Some.ensures c.in-Some-index.is))

pub returns-in-None-index : goal.returns-in-None-index
returns-in-None-index c =
    let h = c.self.inside.unproductive.now in
    let lt = subst (λ (n : Numbered). c.args.rule < length n.rules) (sym c.self.view_is) c.requires in
    let sink = sink_at h c.self.inside.groups.items c.self.inside.firsts.items c.self.invariant c.args.rule lt c.in-Some.first c.index.result.now c.index.ensures c.in-Some.is in
    absurd (has_group h c.self.inside.groups.items c.args.rule c.in-Some.first sink c.index-in-Some.result.now c.index-in-Some.ensures c.in-None-index.is)
