use Rattle.std.proofs.Common.{◌≡◌, ◌≤◌, ◌+◌, ◌-◌, ◌<◌, ℕ, List, [], Some, IfSome, ap, arith, get_or, length, slice_get, subst, sym}
use Rattle.std.proofs.lemmas.List.{length-map}
use Rattle.std.proofs.lemmas.Option.{slice_get-get_or}
use Rattle.cfgrammar.specs.Numbered.{core, production_core}
use Rattle.lr_states.specs.Automaton.{Automaton}
use Rattle.lr_states.specs.Viable.{IsUsed, item_at}
use Rattle.lr_states.specs.declared.kernels.Target.{Target}
use Rattle.lr_states.specs.declared.lookaheads.nodes.Block.{Block}
use Rattle.lr_states.specs.Inner.Edges.{KernelEdge}
use Rattle.lr_states.specs.Inner.Numbers.{numbers_of}
use Rattle.lr_states.proofs.Adds.{below_more, below_none}
use Rattle.lr_states.proofs.Pushed.{KernelItem, kernel_item, kernel_one, rule_low, target_all, target_inside}
use Rattle.lr_states.proofs.lookaheads.edges.Graph.push_target.Goals.{After-items, After-targets}
use Rattle.lr_states.proofs.lookaheads.edges.Graph.push_target.Goals as goal

abbrev target : List Target → ℕ → Target
target all place = get_or all place (record { symbol = 0; state = 0 })

target_at : (x : Automaton) (q place : ℕ) (all : List Target) → all ≡ get_or x.targets q [] → place < length (get_or x.targets q [])
    → slice_get (get_or x.targets q []) place ≡ Some (target all place)
target_at x q place all same low =
    subst (λ l. slice_get l place ≡ Some (target all place)) same
    (slice_get-get_or all place (record { symbol = 0; state = 0 }) (subst (λ l. place < length l) (sym same) low))

-- the item at the index is one with symbols read of the target's state
item_here : (c : After-items) → KernelItem (core c.args.self.now.grammar.now) c.args.self.now.states.now (numbers_of c.args.self.now.nodes.now)
    c.requires.graph.ready c.args.state c.requires.state c.args.place (target c.targets.result.now c.args.place)
    (target_at c.args.self.now.states.now c.args.state c.args.place c.targets.result.now c.targets.ensures c.requires.place) c.loop-index.index
    (get_or c.items.result.now c.loop-index.index (item_at 0 0))
item_here c =
    let g = core c.args.self.now.grammar.now in
    let n = numbers_of c.args.self.now.nodes.now in
    let x = c.args.self.now.states.now in
    let i = c.loop-index.index in
    let t = target c.targets.result.now c.args.place in
    let at = target_at x c.args.state c.args.place c.targets.result.now c.targets.ensures c.requires.place in
    subst (λ l. KernelItem g x n c.requires.graph.ready c.args.state c.requires.state c.args.place t at i (get_or l i (item_at 0 0))) (sym c.items.ensures)
    (kernel_item g x n c.requires.graph.ready c.args.state c.requires.state c.args.place t at i
    (subst (λ (b : Block). i < b.rules - b.items) c.block-after.ensures c.loop-index-test.true) (item_at 0 0))

at : (c : After-targets) → slice_get (get_or c.args.self.now.states.now.targets c.args.state []) c.args.place ≡ Some (target c.targets.result.now c.args.place)
at c = target_at c.args.self.now.states.now c.args.state c.args.place c.targets.result.now c.targets.ensures c.requires.place

pub block-after-requires : goal.block-after-requires
block-after-requires c =
    let a = (goal.at.block-after-requires c).After-targets in
    let r = c.requires.graph.ready in
    let there = target_inside (core c.args.self.now.grammar.now) c.args.self.now.states.now (numbers_of c.args.self.now.nodes.now) r c.args.state
    c.requires.state c.args.place (target c.targets.result.now c.args.place) (at a) in
    omega (arith, there, r.numbers.states)

pub loop-index-init : goal.loop-index-init
loop-index-init c = below_none _ _

pub push_item-requires-clause-item : goal.push_item-requires-clause-item
push_item-requires-clause-item c =
    let low = (item_here (goal.at.push_item-requires-clause-item c).After-items).production in
    let products = length-map c.args.self.now.grammar.now.productions production_core in
    omega (arith, low, products)

pub push_item-requires-clause-read : goal.push_item-requires-clause-read
push_item-requires-clause-read c = (item_here (goal.at.push_item-requires-clause-read c).After-items).some

pub push_item-requires-clause-within : goal.push_item-requires-clause-within
push_item-requires-clause-within c = (item_here (goal.at.push_item-requires-clause-within c).After-items).read

pub push_item-requires-clause-before : goal.push_item-requires-clause-before
push_item-requires-clause-before c = (item_here (goal.at.push_item-requires-clause-before c).After-items).before

pub push_item-requires-clause-next : goal.push_item-requires-clause-next
push_item-requires-clause-next c =
    let a = (goal.at.push_item-requires-clause-next c).After-targets in
    let n = numbers_of c.args.self.now.nodes.now in
    subst (λ o. IfSome o (λ node. node < n.len)) (sym (c.next_at-next.ensures (target c.targets.result.now c.args.place) (at a)))
    (rule_low (core c.args.self.now.grammar.now) c.args.self.now.states.now n c.requires.graph.ready c.args.state c.requires.state c.args.place
    (target c.targets.result.now c.args.place) (at a))

pub loop-index-preserved : goal.loop-index-preserved
loop-index-preserved c =
    let a = (goal.at.loop-index-preserved c).After-targets in
    let g = core c.args.self.now.grammar.now in
    let n = numbers_of c.args.self.now.nodes.now in
    let x = c.args.self.now.states.now in
    let i = c.loop-index.index in
    let k = item_here (goal.at.loop-index-preserved c).After-items in
    let after = ap (λ (b : Block). b.items + i) c.block-after.ensures in
    below_more (KernelEdge g (IsUsed g) n x c.args.state c.args.place (target c.targets.result.now c.args.place)) i c.args.edges.now c.loop-index.edges
    c.push_item.new.edges c.loop-index.invariant
    (kernel_one g x n c.requires.graph.ready c.args.state c.requires.state c.args.place (target c.targets.result.now c.args.place) (at a) i
    (get_or c.items.result.now i (item_at 0 0)) k.is k.some
    (c.block-after.result.items + i) after c.next_at-next.result (c.next_at-next.ensures (target c.targets.result.now c.args.place) (at a))
    c.loop-index.edges c.push_item.new.edges c.in_ok-push_item.ensures)

pub returns : goal.returns
returns c =
    let a = (goal.at.returns c).After-targets in
    target_all (core c.args.self.now.grammar.now) c.args.self.now.states.now (numbers_of c.args.self.now.nodes.now) c.requires.graph.ready c.args.state
    c.requires.state c.args.place (target c.targets.result.now c.args.place) (at a) c.loop-index.index
    (subst (λ (b : Block). b.rules - b.items ≤ c.loop-index.index) c.block-after.ensures c.loop-index-test.false)
    c.args.edges.now c.loop-index.edges c.loop-index.invariant
