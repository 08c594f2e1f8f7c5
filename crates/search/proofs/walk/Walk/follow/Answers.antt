use Rattle.std.proofs.Common.{◌∙◌, ◌<◌, ◌≤◌, [], sym, subst}
use Rattle.std.proofs.lemmas.List.{get_or_default}
use Rattle.search.specs.declared.walk.Walk.{Walk}
use Rattle.search.specs.declared.walk.Known.TheVariants.{New}
use Rattle.search.specs.Inner.Walk.{IsWalk, left_to_look, left_to_walk}
use Rattle.search.proofs.Outcomes.{on_ok_five}
use Rattle.search.proofs.Walking.{entered, known_as, less_after, passed, rejoined}
use Rattle.search.proofs.walk.Walk.follow.Goals as goal

pub returns-in-New-clause-walk : goal.returns-in-New-clause-walk
returns-in-New-clause-walk g c =
    let x = c.args.self.now in
    let within = subst (λ n. c.args.edge.to < n) (sym c.requires.walk.are.numbered.entries) c.requires.to in
    let new = get_or_default x.known.items c.args.edge.to New _ within ∙ sym c.index.ensures ∙ c.in-New.is in
    on_ok_five c.enter.result
    (λ known path groups pending targets. record {
      are = known_as known path groups pending.is c.enter.ensures.count
          (entered _ _ x.known.items x.path.items x.groups.items x.pending.items x.count c.args.edge c.requires.walk.are c.requires.leads
          c.requires.to new pending.targets pending.all pending.within pending.few);
      targets = targets;
    })
    c.enter.ensures.known c.enter.ensures.path c.enter.ensures.groups c.enter.ensures.pending c.enter.ensures.targets

pub returns-in-New-clause-less : goal.returns-in-New-clause-less
returns-in-New-clause-less g c =
    let nodes = g.E.Edges.nodes c.args.edges.now in
    let x = c.args.self.now in
    let within = subst (λ n. c.args.edge.to < n) (sym c.requires.walk.are.numbered.entries) c.requires.to in
    let new = get_or_default x.known.items c.args.edge.to New _ within ∙ sym c.index.ensures ∙ c.in-New.is in
    on_ok_five c.enter.result
    (λ known path groups pending targets. subst (λ n. n ≤ left_to_walk nodes x) (sym (λ i. left_to_look nodes (known i) (groups i) (pending.is i)))
    (less_after _ _ x.known.items x.path.items x.groups.items x.pending.items x.count c.args.edge c.requires.walk.are c.requires.leads c.requires.to new
    pending.targets pending.all pending.within pending.few))
    c.enter.ensures.known c.enter.ensures.path c.enter.ensures.groups c.enter.ensures.pending c.enter.ensures.targets

pub returns-in-Open-clause-walk : goal.returns-in-Open-clause-walk
returns-in-Open-clause-walk g c =
    let x = c.args.self.now in
    let within = subst (λ n. c.args.edge.to < n) (sym c.requires.walk.are.numbered.entries) c.requires.to in
    let is = get_or_default x.known.items c.args.edge.to New _ within ∙ sym c.index.ensures ∙ c.in-Open.is in
    subst (λ (y : Walk). IsWalk (g.E.Edges.leads c.args.edges.now) (g.E.Edges.nodes c.args.edges.now) y []) (sym c.join.ensures.rest) (record {
      are = rejoined _ _ _ _ _ _ _ c.args.edge c.requires.walk.are c.requires.leads c.in-Open.index is
          c.join.new.self.groups.items c.join.ensures.rising c.join.ensures.groups c.join.ensures.fewer;
      targets = c.requires.walk.targets;
    })

pub returns-in-Settled-clause-walk : goal.returns-in-Settled-clause-walk
returns-in-Settled-clause-walk g c =
    let x = c.args.self.now in
    let within = subst (λ n. c.args.edge.to < n) (sym c.requires.walk.are.numbered.entries) c.requires.to in
    let is = get_or_default x.known.items c.args.edge.to New _ within ∙ sym c.index.ensures ∙ c.in-Settled.is in
    record { are = passed _ _ _ _ _ _ _ c.args.edge c.requires.walk.are (c.in-Settled.field-0, is); targets = c.requires.walk.targets }
