use Rattle.std.proofs.Common.{◌≡◌, ◌<◌, [], get_or, length, slice_index, arith, refl, sym, ap, ◌∙◌, subst, length-set}
use Rattle.search.specs.Components.{AreMembers}
use Rattle.search.proofs.Members.{longer_list, one_member}
use Rattle.search.proofs.components.members_of.Goals as goal

pub loop-node-preserved : goal.loop-node-preserved
loop-node-preserved c =
    let numbers = c.args.numbers.now in
    let node = c.loop-node.node in
    let members = c.loop-node.members in
    let inside : slice_index numbers node < length members = subst (λ n. slice_index numbers node < n) (sym c.loop-node.invariant.lists) (c.requires node c.loop-node-test.true) in
    record {
      lists = ap length c.in_ok-push.ensures.ok ∙ length-set members (slice_index numbers node) (longer_list members (slice_index numbers node) node) ∙ c.loop-node.invariant.lists;
      members = one_member numbers members c.push.new.self node (slice_index numbers node) refl inside c.in_ok-push.ensures.ok c.loop-node.invariant.members;
    }

pub returns-clause-members : goal.returns-clause-members
returns-clause-members c = λ number.
    let all : c.loop-node.node ≡ length c.args.numbers.now = omega (arith, c.loop-node-test.false, c.loop-node.auto.node-end) in
    subst (λ n. AreMembers c.args.numbers.now n number (get_or c.loop-node.members number [])) all (c.loop-node.invariant.members number)
