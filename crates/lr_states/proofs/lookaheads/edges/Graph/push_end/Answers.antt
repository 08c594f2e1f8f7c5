use Rattle.std.proofs.Common.{◌<◌, length, arith, refl, sym, ◌∙◌}
use Rattle.cfgrammar.specs.Numbered.{core}
use Rattle.lr_states.specs.Viable.{IsUsed}
use Rattle.lr_states.specs.Inner.Edges.{EndEdge}
use Rattle.lr_states.specs.Inner.Numbers.{at_start, numbers_of}
use Rattle.lr_states.proofs.Adds.{IsOne, adds_as, adds_one}
use Rattle.lr_states.proofs.Ready.{next_low}
use Rattle.lr_states.proofs.lookaheads.edges.Graph.push_end.Goals as goal

pub push-requires : goal.push-requires
push-requires c =
    let g = core c.args.self.now.grammar.now in
    let r = c.requires.graph.ready in
    let some : 0 < length c.args.self.now.states.now.states = omega (arith, c.len.ensures, c.if-len-eq0.false) in
    let low = next_low g c.args.self.now.states.now (numbers_of c.args.self.now.nodes.now) r 0 0 (some, r.grammar.start, at_start refl refl) in
    omega (arith, low, c.next.ensures, c.requires.nodes)

pub returns : goal.returns
returns c =
    let g = core c.args.self.now.grammar.now in
    let n = numbers_of c.args.self.now.nodes.now in
    let x = c.args.self.now.states.now in
    let r = c.requires.graph.ready in
    let some : 0 < length x.states = omega (arith, c.len.ensures, c.if-len-eq0.false) in
    let low = next_low g x n r 0 0 (some, r.grammar.start, at_start refl refl) in
    let room : c.next.result < length c.args.edges.now = omega (arith, low, c.next.ensures, c.requires.nodes) in
    let last = c.eof_token_idx.ensures.value in
    let end = c.from-end.ensures in
    adds_as (IsOne c.next.result c.from-end.result) (EndEdge g (IsUsed g) n x) c.args.edges.now c.push.new.self
    (λ a b h. let to = h.1 in record { some = some; source = h.0 ∙ c.next.ensures; target = omega (arith, to, end, last) })
    (λ a b e. let to = e.target in (e.source ∙ sym c.next.ensures, omega (arith, to, end, last)))
    (adds_one c.args.edges.now c.push.new.self c.next.result c.from-end.result room c.in_ok-push.ensures.ok)
