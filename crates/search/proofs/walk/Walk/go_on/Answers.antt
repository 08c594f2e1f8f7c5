use Rattle.std.proofs.Common.{◌<◌, ◌≤◌, length, arith, ap, refl, sym, subst, ◌∙◌}
use Rattle.std.proofs.lemmas.List.{length_push}
use Rattle.search.specs.Inner.Walk.{left_to_look, left_to_walk}
use Rattle.search.proofs.Walking.{inside_path, known_as, room, settled_last, settled_less, taken_leads, taken_one, taken_within}
use Rattle.search.proofs.walk.Walk.go_on.Goals as goal

pub settle-requires-clause-start : goal.settle-requires-clause-start
settle-requires-clause-start g c = inside_path _ _ _ _ _ _ _ c.requires.walk.are c.args.group c.requires.group

pub settle-requires-clause-count : goal.settle-requires-clause-count
settle-requires-clause-count g c = room _ _ _ _ _ _ _ c.requires.walk.are c.args.group c.requires.group

pub returns-then-len-group-clause-walk : goal.returns-then-len-group-clause-walk
returns-then-len-group-clause-walk g c =
    let x = c.args.self.now in
    let done : length x.pending.items ≤ c.args.group.pending = omega (arith, c.if-len-group.true, c.len.ensures, x.pending.ok.0) in
    record {
      are = known_as refl c.settle.ensures.path (c.settle.ensures.groups c.requires.group.rest c.args.group c.requires.group.is) c.settle.ensures.pending
          c.settle.ensures.count (settled_last _ _ x.known.items x.path.items x.groups.items x.pending.items x.count c.requires.walk.are c.args.group c.requires.group
          done c.settle.new.self.known.items c.settle.ensures.entries c.settle.ensures.known);
      targets = c.settle.ensures.targets ∙ c.requires.walk.targets;
    }

pub returns-then-len-group-clause-less : goal.returns-then-len-group-clause-less
returns-then-len-group-clause-less g c =
    let x = c.args.self.now in
    let done : length x.pending.items ≤ c.args.group.pending = omega (arith, c.if-len-group.true, c.len.ensures, x.pending.ok.0) in
    let nodes = g.E.Edges.nodes c.args.edges.now in
    let groups = c.settle.ensures.groups c.requires.group.rest c.args.group c.requires.group.is in
    subst (λ n. n < left_to_walk nodes x) (sym (λ i. left_to_look nodes c.settle.new.self.known.items (groups i) (c.settle.ensures.pending i)))
    (settled_less _ _ x.known.items x.path.items x.groups.items x.pending.items x.count c.requires.walk.are c.args.group c.requires.group done
    c.settle.new.self.known.items c.settle.ensures.entries c.settle.ensures.known)

pub follow-requires-clause-to : goal.follow-requires-clause-to
follow-requires-clause-to g c =
    let x = c.args.self.now in
    let long = ap length c.in-Some.ensures.items ∙ length_push c.pop.new.self.items c.in-Some.edge in
    let more : c.args.group.pending ≤ length c.pop.new.self.items = omega (arith, c.if-len-group.false, c.len.ensures, x.pending.ok.0, long) in
    taken_within _ _ _ _ _ _ _ c.requires.walk.are c.args.group c.requires.group c.pop.new.self.items c.in-Some.edge c.in-Some.ensures.items more

pub follow-requires-clause-walk : goal.follow-requires-clause-walk
follow-requires-clause-walk g c =
    let x = c.args.self.now in
    let long = ap length c.in-Some.ensures.items ∙ length_push c.pop.new.self.items c.in-Some.edge in
    let more : c.args.group.pending ≤ length c.pop.new.self.items = omega (arith, c.if-len-group.false, c.len.ensures, x.pending.ok.0, long) in
    record {
      are = taken_one _ _ _ _ _ _ _ c.requires.walk.are c.args.group c.requires.group c.pop.new.self.items c.in-Some.edge c.in-Some.ensures.items more;
      targets = c.requires.walk.targets;
    }

pub follow-requires-clause-leads : goal.follow-requires-clause-leads
follow-requires-clause-leads g c =
    let x = c.args.self.now in
    let long = ap length c.in-Some.ensures.items ∙ length_push c.pop.new.self.items c.in-Some.edge in
    let more : c.args.group.pending ≤ length c.pop.new.self.items = omega (arith, c.if-len-group.false, c.len.ensures, x.pending.ok.0, long) in
    taken_leads _ _ _ _ _ _ _ c.requires.walk.are c.args.group c.requires.group c.pop.new.self.items c.in-Some.edge c.in-Some.ensures.items more
