use Rattle.std.proofs.Common.{◌≡◌, ◌+◌, [], Some, ap, arith, cond, get_or, subst, sym, ◌∙◌}
use Rattle.std.specs.Prelude.{is_some, position}
use Rattle.std.proofs.lemmas.Bool.{ne_eqb}
use Rattle.std.proofs.lemmas.Bool.Decides.{Decides-eqb}
use Rattle.std.proofs.lemmas.List.{get_or_default}
use Rattle.lr_states.specs.Viable.{AreSorted}
use Rattle.lr_states.specs.Lookaheads.{is_item}
use Rattle.lr_states.specs.Inner.Graph.{next}
use Rattle.lr_states.specs.Inner.Numbers.{IsNode, block_of, item_number, next_number, numbers_of, place_of_item}
use Rattle.lr_states.specs.declared.lookaheads.nodes.Block.{Block}
use Rattle.lr_states.proofs.Ready.{item_low, opened_next, owner_low}
use Rattle.lr_states.proofs.Places.{item_there}
use Rattle.lr_states.proofs.lookaheads.nodes.Nodes.of_item.Goals.{After-place_of_item, After-unwrap}
use Rattle.lr_states.proofs.lookaheads.nodes.Nodes.of_item.Goals as goal

pub index-requires : goal.index-requires
index-requires c =
    let (g, r) = c.requires.ready in
    let low = owner_low g c.args.states.now (numbers_of c.args.self.now) r c.args.state c.requires.state c.args.item c.requires.item in
    omega (arith, low, c.args.self.now.owners.ok)

pub next-requires : goal.next-requires
next-requires c =
    let n = numbers_of c.args.self.now in
    let x = c.args.states.now in
    let q = c.args.state in
    let item = c.args.item in
    let (g, r) = c.requires.ready in
    let owner = c.index.ensures ∙ get_or_default n.owners item.production c.index.result.now 0 (owner_low g x n r q c.requires.state item c.requires.item) in
    (g, r, subst (λ rule. IsNode g x (next q rule)) (sym owner) (opened_next g x n r q c.requires.state item c.requires.item c.if-item-eq0.true))

pub returns-then-item-eq0 : goal.returns-then-item-eq0
returns-then-item-eq0 c =
    let n = numbers_of c.args.self.now in
    let x = c.args.states.now in
    let q = c.args.state in
    let item = c.args.item in
    let (g, r) = c.requires.ready in
    let owner = c.index.ensures ∙ get_or_default n.owners item.production c.index.result.now 0 (owner_low g x n r q c.requires.state item c.requires.item) in
    c.next.ensures ∙ ap (next_number n x q) owner
    ∙ ap (λ b. cond b (next_number n x q (get_or n.owners item.production 0)) ((block_of n q).items + place_of_item (get_or x.states q []) item)) (sym ((Decides-eqb item.read 0).1 c.if-item-eq0.true))

pub place_of_item-requires : goal.place_of_item-requires
place_of_item-requires c = let (g, r) = c.requires.ready in subst AreSorted (sym c.items.ensures) (r.states.sorted c.args.state c.requires.state)

-- the item is found
found : (c : After-place_of_item) → c.place_of_item.result ≡ Some (place_of_item (get_or c.args.states.now.states c.args.state []) c.args.item)
found c =
    let (g, r) = c.requires.ready in
    c.place_of_item.ensures ∙ ap (position (is_item c.args.item)) c.items.ensures
    ∙ item_there (get_or c.args.states.now.states c.args.state []) (r.states.sorted c.args.state c.requires.state) c.args.item c.requires.item

pub unwrap-requires : goal.unwrap-requires
unwrap-requires c = ap is_some (found (goal.at.unwrap-requires c).After-place_of_item)

placed : (c : After-unwrap) → c.place_of_item.result ≡ Some (place_of_item (get_or c.args.states.now.states c.args.state []) c.args.item)
    → c.unwrap.result ≡ place_of_item (get_or c.args.states.now.states c.args.state []) c.args.item
placed c is =
    let known : Some c.unwrap.result ≡ Some (place_of_item (get_or c.args.states.now.states c.args.state []) c.args.item) = sym c.unwrap.ensures ∙ is in
    cc

pub overflow_add-result : goal.overflow_add-result
overflow_add-result c =
    let n = numbers_of c.args.self.now in
    let x = c.args.states.now in
    let q = c.args.state in
    let item = c.args.item in
    let (g, r) = c.requires.ready in
    let low = item_low g x n r q c.requires.state item c.requires.item in
    let value : item_number n x q item ≡ (block_of n q).items + place_of_item (get_or x.states q []) item =
    ap (λ b. cond b (next_number n x q (get_or n.owners item.production 0)) ((block_of n q).items + place_of_item (get_or x.states q []) item)) (ne_eqb item.read 0 c.if-item-eq0.false) in
    let here = ap (λ (b : Block). b.items) c.block.ensures in
    let there = placed (goal.at.overflow_add-result c).After-unwrap (found (goal.at.overflow_add-result c).After-place_of_item) in
    omega (arith, low, value, here, there)

pub returns-else-item-eq0 : goal.returns-else-item-eq0
returns-else-item-eq0 c =
    let n = numbers_of c.args.self.now in
    let x = c.args.states.now in
    let q = c.args.state in
    let item = c.args.item in
    let value : item_number n x q item ≡ (block_of n q).items + place_of_item (get_or x.states q []) item =
    ap (λ b. cond b (next_number n x q (get_or n.owners item.production 0)) ((block_of n q).items + place_of_item (get_or x.states q []) item)) (ne_eqb item.read 0 c.if-item-eq0.false) in
    let here = ap (λ (b : Block). b.items) c.block.ensures in
    let there = placed (goal.at.returns-else-item-eq0 c).After-unwrap (found (goal.at.returns-else-item-eq0 c).After-place_of_item) in
    omega (arith, value, here, there)
