use Rattle.std.proofs.Common.{◌+◌, ◌<◌, length, arith, refl, sym, true≢false, ◌∙◌}
use Rattle.cfgrammar.specs.Numbered.{core}
use Rattle.cfgrammar.specs.NumberedSymbols.{sym_of}
use Rattle.lr_states.specs.Viable.{IsUsed}
use Rattle.lr_states.specs.Inner.Edges.{AddsEdges}
use Rattle.lr_states.specs.Inner.Numbers.{numbers_of}
use Rattle.lr_states.proofs.Adds.{IsOne, adds_one}
use Rattle.lr_states.proofs.Pushed.{rest_shows, rest_skips}
use Rattle.lr_states.proofs.Ready.{after_low, shown_low, unread_low}
use Rattle.lr_states.proofs.lookaheads.edges.Graph.push_rest.Goals.{In_ok-push}
use Rattle.lr_states.proofs.lookaheads.edges.Graph.push_rest.Goals as goal

pub rest-node-requires-clause-production : goal.rest-node-requires-clause-production
rest-node-requires-clause-production c = let (there, low) = unread_low (core c.args.self.now.grammar.now) c.args.self.now.states.now (numbers_of c.args.self.now.nodes.now) c.requires.graph.ready c.args.item
    (sym_of (λ s. s) c.args.symbol) c.requires.next in there

pub rest-node-requires-clause-node : goal.rest-node-requires-clause-node
rest-node-requires-clause-node c = let (there, low) = unread_low (core c.args.self.now.grammar.now) c.args.self.now.states.now (numbers_of c.args.self.now.nodes.now) c.requires.graph.ready c.args.item
    (sym_of (λ s. s) c.args.symbol) c.requires.next in low

pub shown-requires : goal.shown-requires
shown-requires c = shown_low (core c.args.self.now.grammar.now) c.args.self.now.states.now (numbers_of c.args.self.now.nodes.now) c.requires.graph.ready c.args.item (sym_of (λ s. s) c.args.symbol) c.requires.next

pub push-requires : goal.push-requires
push-requires c =
    let (there, low) = unread_low (core c.args.self.now.grammar.now) c.args.self.now.states.now (numbers_of c.args.self.now.nodes.now) c.requires.graph.ready c.args.item (sym_of (λ s. s) c.args.symbol) c.requires.next in
    omega (arith, low, c.rest-node.ensures, c.requires.nodes)

pushed : (c : In_ok-push) → AddsEdges (IsOne c.rest-node.result c.shown.result) c.args.edges.now c.push.new.self
pushed c =
    let (there, low) = unread_low (core c.args.self.now.grammar.now) c.args.self.now.states.now (numbers_of c.args.self.now.nodes.now) c.requires.graph.ready c.args.item (sym_of (λ s. s) c.args.symbol) c.requires.next in
    let room : c.rest-node.result < length c.args.edges.now = omega (arith, low, c.rest-node.ensures, c.requires.nodes) in
    adds_one c.args.edges.now c.push.new.self c.rest-node.result c.shown.result room c.in_ok-push.ensures.ok

pub overflow_add-node : goal.overflow_add-node
overflow_add-node c =
    let low = after_low (core c.args.self.now.grammar.now) c.args.self.now.states.now (numbers_of c.args.self.now.nodes.now) c.requires.graph.ready c.args.item (sym_of (λ s. s) c.args.symbol) c.requires.next in
    omega (arith, low, c.rest-node.ensures)

pub push-requires-then-is_nullable : goal.push-requires-then-is_nullable
push-requires-then-is_nullable c =
    let (there, low) = unread_low (core c.args.self.now.grammar.now) c.args.self.now.states.now (numbers_of c.args.self.now.nodes.now) c.requires.graph.ready c.args.item (sym_of (λ s. s) c.args.symbol) c.requires.next in
    let one = pushed (goal.at.push-requires-then-is_nullable c).In_ok-push in
    omega (arith, low, c.rest-node.ensures, one.shape, c.requires.nodes)

pub returns-in_ok-push-2 : goal.returns-in_ok-push-2
returns-in_ok-push-2 c =
    let g = core c.args.self.now.grammar.now in
    let n = numbers_of c.args.self.now.nodes.now in
    let x = c.args.self.now.states.now in
    let y = sym_of (λ s. s) c.args.symbol in
    let node = c.rest-node.result in
    let one = pushed (goal.at.returns-in_ok-push-2 c).In_ok-push in
    let (there, low) = unread_low g x n c.requires.graph.ready c.args.item y c.requires.next in
    let room : node < length c.push.new.self = omega (arith, low, c.rest-node.ensures, one.shape, c.requires.nodes) in
    rest_skips g (IsUsed g) n x c.args.item y node c.shown.result c.rest-node.ensures c.shown.ensures ((c.is_nullable.ensures g c.requires.graph.firsts).0 c.if-is_nullable.true) (node + 1) refl
    c.args.edges.now c.push.new.self c.push-then-is_nullable.new.self one (adds_one c.push.new.self c.push-then-is_nullable.new.self node (node + 1) room c.in_ok-push-2.ensures.ok)

pub returns-else-is_nullable : goal.returns-else-is_nullable
returns-else-is_nullable c =
    let g = core c.args.self.now.grammar.now in
    rest_shows g (IsUsed g) (numbers_of c.args.self.now.nodes.now) c.args.self.now.states.now c.args.item (sym_of (λ s. s) c.args.symbol) c.rest-node.result c.shown.result c.rest-node.ensures c.shown.ensures
    (λ d. true≢false (sym ((c.is_nullable.ensures g c.requires.graph.firsts).1 d) ∙ c.if-is_nullable.false)) c.args.edges.now c.push.new.self (pushed (goal.at.returns-else-is_nullable c).In_ok-push)
