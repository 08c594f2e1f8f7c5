use Rattle.std.proofs.Common.{◌<◌, IfSome, arith, length, subst}
use Rattle.std.proofs.lemmas.List.{length-map}
use Rattle.cfgrammar.specs.Numbered.{core, production_core}
use Rattle.lr_states.specs.Viable.{IsUsed}
use Rattle.lr_states.specs.Inner.Edges.{AddsEdges}
use Rattle.lr_states.specs.Inner.Numbers.{numbers_of}
use Rattle.lr_states.proofs.Adds.{IsOne, adds_one}
use Rattle.lr_states.proofs.Pushed.{item_alone, item_comes, item_ends}
use Rattle.lr_states.proofs.Ready.{rest_low}
use Rattle.lr_states.proofs.lookaheads.edges.Graph.push_item.Goals.{In_ok-push, In_ok-push-2}
use Rattle.lr_states.proofs.lookaheads.edges.Graph.push_item.Goals as goal

pushed : (c : In_ok-push) → AddsEdges (IsOne c.args.after c.of_item-node.result) c.args.edges.now c.push.new.self
pushed c =
    let room : c.args.after < length c.args.edges.now = omega (arith, c.requires.after, c.requires.nodes) in
    adds_one c.args.edges.now c.push.new.self c.args.after c.of_item-node.result room c.in_ok-push.ensures.ok

pub returns-in_default : goal.returns-in_default
returns-in_default c =
    let g = core c.args.self.now.grammar.now in
    item_alone g (IsUsed g) (numbers_of c.args.self.now.nodes.now) c.args.self.now.states.now c.args.state c.args.item c.args.after c.of_item-node.result
    c.of_item-node.ensures c.args.next c.in_default.is c.args.edges.now c.push.new.self (pushed (goal.at.returns-in_default c).In_ok-push)

pub rest-requires-clause-node : goal.rest-requires-clause-node
rest-requires-clause-node c =
    let products = length-map c.args.self.now.grammar.now.productions production_core in
    (rest_low (core c.args.self.now.grammar.now) c.args.self.now.states.now (numbers_of c.args.self.now.nodes.now) c.requires.graph.ready c.args.item
    (omega (arith, products, c.requires.item), c.requires.within)).1

rest_pushed : (c : In_ok-push-2) → AddsEdges (IsOne c.args.after c.of_item-node.result) c.args.edges.now c.push.new.self → AddsEdges (IsOne c.in-Some.next c.rest.result) c.push.new.self c.push-2.new.self
rest_pushed c one =
    let n = numbers_of c.args.self.now.nodes.now in
    let low = subst (λ o. IfSome o (λ node. node < n.len)) c.in-Some.is c.requires.next in
    let room : c.in-Some.next < length c.push.new.self = omega (arith, low, one.shape, c.requires.nodes) in
    adds_one c.push.new.self c.push-2.new.self c.in-Some.next c.rest.result room c.in_ok-push-2.ensures.ok

pub returns-in_ok-push-3 : goal.returns-in_ok-push-3
returns-in_ok-push-3 c =
    let g = core c.args.self.now.grammar.now in
    let n = numbers_of c.args.self.now.nodes.now in
    let m = c.in-Some.next in
    let products = length-map c.args.self.now.grammar.now.productions production_core in
    let empty = (c.requires.graph.nullable_from.each c.args.item.production (omega (arith, products, c.requires.item)) c.args.item.read).0 c.if-self-item.true in
    let one = pushed (goal.at.returns-in_ok-push-3 c).In_ok-push in
    let two = rest_pushed (goal.at.returns-in_ok-push-3 c).In_ok-push-2 one in
    let low = subst (λ o. IfSome o (λ node. node < n.len)) c.in-Some.is c.requires.next in
    let room : m < length c.push-2.new.self = omega (arith, low, one.shape, two.shape, c.requires.nodes) in
    item_ends g (IsUsed g) n c.args.self.now.states.now c.args.state c.args.item c.args.after c.of_item-node.result c.of_item-node.ensures m c.args.next c.in-Some.is
    c.rest.result c.rest.ensures c.args.edges.now c.push.new.self c.push-2.new.self one two empty c.push-then-self-item.new.self
    (adds_one c.push-2.new.self c.push-then-self-item.new.self m c.of_item-node.result room c.in_ok-push-3.ensures.ok)

pub returns-else-self-item : goal.returns-else-self-item
returns-else-self-item c =
    let g = core c.args.self.now.grammar.now in
    let products = length-map c.args.self.now.grammar.now.productions production_core in
    let nullable = c.requires.graph.nullable_from.each c.args.item.production (omega (arith, products, c.requires.item)) c.args.item.read in
    let one = pushed (goal.at.returns-else-self-item c).In_ok-push in
    item_comes g (IsUsed g) (numbers_of c.args.self.now.nodes.now) c.args.self.now.states.now c.args.state c.args.item c.args.after c.of_item-node.result
    c.of_item-node.ensures c.in-Some.next c.args.next c.in-Some.is c.rest.result c.rest.ensures c.args.edges.now c.push.new.self c.push-2.new.self one
    (rest_pushed (goal.at.returns-else-self-item c).In_ok-push-2 one) (λ d. let most = nullable.1 d in omega (arith, most, c.if-self-item.false))
