-- Different nodes have different numbers.
use Rattle.std.proofs.Common.{◌≡◌, ℕ, ◌+◌, ◌<◌, ◌≤◌, List, [], Option, None, Some, get_or, length, slice_get, refl, sym, ap, subst, ◌∙◌, arith}
use Rattle.cfgrammar.specs.Grammar.{Grammar}
use Rattle.lr_states.specs.declared.Item.{Item}
use Rattle.lr_states.specs.declared.kernels.Target.{Target}
use Rattle.lr_states.specs.Automaton.{Automaton, HaveTargets}
use Rattle.lr_states.specs.Viable.{AreSorted}
use Rattle.search.proofs.PathGroups.{contains_at}
use Rattle.lr_states.specs.declared.lookaheads.nodes.Block.{Block}
use Rattle.lr_states.specs.Inner.Graph.{Node, begun, next, read, rest, token}
use Rattle.lr_states.specs.Inner.Numbers.{AreNumbers, IsBlock, IsNext, IsNode, Numbers, at_place, block_of, number, place_of_item, place_of_symbol, at_start, by_target}
use Rattle.lr_states.proofs.Rests.{rests_rise}
use Rattle.lr_states.proofs.Places.{place_cases, place_holds, rule_placed}

module _ (g : Grammar) (x : Automaton) (n : Numbers) (are : AreNumbers g x n) (ready : HaveTargets g x)
    (sorted : (q : ℕ) → q < length x.states → AreSorted (get_or x.states q [])) where
  abbrev items_at : ℕ → List Item
  items_at q = get_or x.states q []

  abbrev targets_at : ℕ → List Target
  targets_at q = get_or x.targets q []

  abbrev block : ℕ → Block
  block q = block_of n q

  abbrev first_of : ℕ → ℕ
  first_of p = get_or n.rests p 0

  -- a production's nodes come before those of later ones
  rest_before : (item : Item) → IsNode g x (rest item) → (r : ℕ) → item.production < r → r ≤ length g.productions → number n x (rest item) < first_of r
  rest_before item (there, within) r less most =
      let more = are.rests.each item.production there in
      let later = rests_rise g (n.tokens + n.rules + 1) n.rests are.rests (item.production + 1) r (omega (arith, less)) most in
      omega (arith, within, more, later)

  -- those of productions come after those of tokens and rules
  rests_after : (p : ℕ) → p ≤ length g.productions → n.tokens + n.rules < first_of p
  rests_after p most = let first = are.rests.first in let later = rests_rise g (n.tokens + n.rules + 1) n.rests are.rests 0 p (omega arith) most in omega (arith, first, later)

  rest_high : (item : Item) → IsNode g x (rest item) → n.tokens + n.rules < number n x (rest item)
  rest_high item is = let there = is.0 in let after = rests_after item.production (omega (arith, there)) in omega (arith, after)

  -- and before those of states
  rest_end : (item : Item) → IsNode g x (rest item) → number n x (rest item) < first_of (length g.productions)
  rest_end item is = rest_before item is (length g.productions) is.0 (omega arith)

  has_block : (q : ℕ) → q < length x.states → q < length n.blocks
  has_block q within = subst (λ m. q < m) (sym are.states) within

  pub block_is : (q : ℕ) → q < length x.states → IsBlock g.rules (items_at q) (targets_at q) (block q)
  block_is q within = are.blocks.each q (has_block q within)

  block_first : (q : ℕ) → q < length x.states → first_of (length g.productions) ≤ (block q).items
  block_first q within = are.blocks.after q (has_block q within)

  -- a state's nodes come after those of tokens and rules
  block_after : (q : ℕ) → q < length x.states → n.tokens + n.rules < (block q).items
  block_after q within = let first = block_first q within in let rests = rests_after (length g.productions) (omega arith) in omega (arith, first, rests)

  pub block_before : (q : ℕ) → q < length x.states → (block q).end ≤ n.len
  block_before q within = are.blocks.before q (has_block q within)

  -- different states have different nodes
  same_state : (q r m : ℕ) → q < length x.states → r < length x.states → (block q).items ≤ m → m < (block q).end → (block r).items ≤ m → m < (block r).end → q ≡ r
  same_state q r m within inside from to low high =
      let up : q < r → (block q).end ≤ (block r).items = λ less. are.blocks.order q r less (has_block r inside) in
      let down : r < q → (block r).end ≤ (block q).items = λ more. are.blocks.order r q more (has_block q within) in
      grind (arith, up, down, from, to, low, high)

  -- where the node of an item with symbols read is
  record ReadAt (q : ℕ) (item : Item) : Type 0 where
    is : slice_get (items_at q) (place_of_item (items_at q) item) ≡ Some item
    low : (block q).items ≤ number n x (read q item)
    high : number n x (read q item) < (block q).rules
    end : number n x (read q item) < (block q).end

  read_at : (q : ℕ) (item : Item) → IsNode g x (read q item) → ReadAt q item
  read_at q item (within, some, h) =
      let is = place_holds (items_at q) (sorted q within) item h in
      let high = ((block_is q within).reads (place_of_item (items_at q) item) item is).0 some in
      let last = (block_is q within).last in
      record { is = is; low = omega arith; high = high; end = omega (arith, high, last) }

  -- where the node of a rule that is next in a state is
  data NextAt (q rule : ℕ) : Type 0 where
    placed : (place : ℕ) (target : Target) → slice_get (targets_at q) place ≡ Some target → target.symbol ≡ rule → number n x (next q rule) ≡ (block q).rules + place
        → number n x (next q rule) < (block q).end → NextAt q rule
    alone : q ≡ 0 → rule ≡ 0 → number n x (next q rule) ≡ n.tokens + n.rules → NextAt q rule

  next_at : (q rule : ℕ) → IsNode g x (next q rule) → NextAt q rule
  next_at q rule (within, bound, is) = go (place_of_symbol (targets_at q) rule) refl is
    where
      go : (o : Option ℕ) → o ≡ place_of_symbol (targets_at q) rule → IsNext x q rule → NextAt q rule
      go (Some place) e is =
          let (target, at, same) = place_cases (targets_at q) rule (Some place) e place refl in
          let here : number n x (next q rule) ≡ (block q).rules + place = ap (at_place (n.tokens + n.rules) (block q).rules) (sym e) in
          let end = (block_is q within).nexts place target at (subst (λ r. r < g.rules) (sym same) bound) in
          placed place target at same here (omega (arith, here, end))
      go None e (at_start zero first) = alone zero first (ap (at_place (n.tokens + n.rules) (block q).rules) (sym e))
      go None e (by_target target h same) =
          let (i, at) = contains_at (targets_at q) target h in
          let some : place_of_symbol (targets_at q) rule ≡ Some i = subst (λ r. place_of_symbol (targets_at q) r ≡ Some i) same (rule_placed (targets_at q) (ready.ascending q within) i target at) in
          absurd (cc)

  -- numbers of rules that are next are not those of tokens and rules
  next_high : (q rule : ℕ) → IsNode g x (next q rule) → n.tokens + n.rules ≤ number n x (next q rule)
  next_high q rule is = elim (next_at q rule is) [
    | placed place target at same here end ↦
        let after = block_after q is.0 in let first = (block_is q is.0).first in omega (arith, after, first, here)
    | alone zero first here ↦ omega (arith, here)
  ]

  read_high : (q : ℕ) (item : Item) → IsNode g x (read q item) → n.tokens + n.rules < number n x (read q item)
  read_high q item is = let after = block_after q is.0 in omega (arith, after)

  rest_rest : (item other : Item) → IsNode g x (rest item) → IsNode g x (rest other) → number n x (rest item) ≡ number n x (rest other) → rest item ≡ rest other
  rest_rest item other a b same =
      let up : item.production < other.production → number n x (rest item) < first_of other.production = λ less. rest_before item a other.production less (let there = b.0 in omega (arith, there)) in
      let down : other.production < item.production → number n x (rest other) < first_of item.production = λ more. rest_before other b item.production more (let there = a.0 in omega (arith, there)) in
      let productions : item.production ≡ other.production = grind (arith, up, down, same) in
      let firsts = ap first_of productions in
      let reads : item.read ≡ other.read = omega (arith, same, firsts) in
      λ i. rest (record { production = productions i; read = reads i })

  rest_read : (item : Item) (q : ℕ) (other : Item) → IsNode g x (rest item) → IsNode g x (read q other) → number n x (rest item) ≡ number n x (read q other) → ⊥
  rest_read item q other a b same = let end = rest_end item a in let first = block_first q b.0 in omega (arith, same, end, first)

  rest_next : (item : Item) (q rule : ℕ) → IsNode g x (rest item) → IsNode g x (next q rule) → number n x (rest item) ≡ number n x (next q rule) → ⊥
  rest_next item q rule a b same = elim (next_at q rule b) [
    | placed place target at for here end ↦
        let last = rest_end item a in let start = block_first q b.0 in let first = (block_is q b.0).first in omega (arith, same, here, last, start, first)
    | alone zero first here ↦ let high = rest_high item a in omega (arith, same, high, here)
  ]

  read_read : (q : ℕ) (item : Item) (r : ℕ) (other : Item) → IsNode g x (read q item) → IsNode g x (read r other) → number n x (read q item) ≡ number n x (read r other) → read q item ≡ read r other
  read_read q item r other a b same =
      let here = read_at q item a in
      let there = read_at r other b in
      let state = same_state q r (number n x (read q item)) a.0 b.0 here.low here.end (subst (λ m. (block r).items ≤ m) (sym same) there.low) (subst (λ m. m < (block r).end) (sym same) there.end) in
      let is = there.is in
      let place : place_of_item (items_at q) item ≡ place_of_item (items_at r) other = let blocks = ap (λ s. (block s).items) state in omega (arith, same, blocks) in
      let items : slice_get (items_at r) (place_of_item (items_at r) other) ≡ Some item = subst (λ m. slice_get (items_at r) m ≡ Some item) place (subst (λ s. slice_get (items_at s) (place_of_item (items_at q) item) ≡ Some item) state here.is) in
      let equal : item ≡ other = cc in
      λ i. read (state i) (equal i)

  read_next : (q : ℕ) (item : Item) (r rule : ℕ) → IsNode g x (read q item) → IsNode g x (next r rule) → number n x (read q item) ≡ number n x (next r rule) → ⊥
  read_next q item r rule a b same = elim (next_at r rule b) [
    | placed place target at for there end ↦
        let here = read_at q item a in
        let high = here.high in
        let first = (block_is r b.0).first in
        let state = same_state q r (number n x (read q item)) a.0 b.0 here.low here.end (omega (arith, same, there, first)) (omega (arith, same, end)) in
        let blocks = ap (λ s. (block s).rules) state in
        omega (arith, same, there, high, blocks)
    | alone zero first there ↦ let high = read_high q item a in omega (arith, high, same, there)
  ]

  next_next : (q rule r other : ℕ) → IsNode g x (next q rule) → IsNode g x (next r other) → number n x (next q rule) ≡ number n x (next r other) → next q rule ≡ next r other
  next_next q rule r other a b same = elim (next_at q rule a) [
    | placed place target at for here end ↦ elim (next_at r other b) [
      | placed place' target' at' for' there end' ↦
          let first = (block_is q a.0).first in
          let first' = (block_is r b.0).first in
          let state = same_state q r (number n x (next q rule)) a.0 b.0 (omega (arith, here, first)) end (omega (arith, same, there, first')) (omega (arith, same, end')) in
          let blocks = ap (λ s. (block s).rules) state in
          let places : place ≡ place' = omega (arith, same, here, there, blocks) in
          let targets : slice_get (targets_at r) place' ≡ Some target = subst (λ m. slice_get (targets_at r) m ≡ Some target) places (subst (λ s. slice_get (targets_at s) place ≡ Some target) state at) in
          let equal : target ≡ target' = cc in
          let rules : rule ≡ other = sym for ∙ ap (λ (t : Target). t.symbol) equal ∙ for' in
          λ i. next (state i) (rules i)
      | alone zero' first' there ↦
          let after = block_after q a.0 in let first = (block_is q a.0).first in absurd (omega (arith, same, here, there, after, first))
    ]
    | alone zero first here ↦ elim (next_at r other b) [
      | placed place' target' at' for' there end' ↦
          let after = block_after r b.0 in let first' = (block_is r b.0).first in absurd (omega (arith, same, here, there, after, first'))
      | alone zero' first' there ↦ λ i. next ((zero ∙ sym zero') i) ((first ∙ sym first') i)
    ]
  ]

  low : (t : ℕ) → t < g.tokens → t < n.tokens
  low t h = subst (λ m. t < m) (sym are.tokens) h

  low_rule : (r : ℕ) → r < g.rules → r < n.rules
  low_rule r h = subst (λ m. r < m) (sym are.rules) h

  pub injective : (a b : Node) → IsNode g x a → IsNode g x b → number n x a ≡ number n x b → a ≡ b
  injective (token t) (token u) a b same = ap token same
  injective (token t) (begun r) a b same = let less = low t a in absurd (omega (arith, less, same))
  injective (token t) (read q item) a b same = let less = low t a in let high = read_high q item b in absurd (omega (arith, less, same, high))
  injective (token t) (next q rule) a b same = let less = low t a in let high = next_high q rule b in absurd (omega (arith, less, same, high))
  injective (token t) (rest item) a b same = let less = low t a in let high = rest_high item b in absurd (omega (arith, less, same, high))
  injective (begun r) (rest item) a b same = let less = low_rule r a in let high = rest_high item b in absurd (omega (arith, less, same, high))
  injective (rest item) (token t) a b same = let less = low t b in let high = rest_high item a in absurd (omega (arith, less, same, high))
  injective (rest item) (begun r) a b same = let less = low_rule r b in let high = rest_high item a in absurd (omega (arith, less, same, high))
  injective (rest item) (rest other) a b same = rest_rest item other a b same
  injective (rest item) (read q other) a b same = absurd (rest_read item q other a b same)
  injective (rest item) (next q rule) a b same = absurd (rest_next item q rule a b same)
  injective (read q other) (rest item) a b same = absurd (rest_read item q other b a (sym same))
  injective (next q rule) (rest item) a b same = absurd (rest_next item q rule b a (sym same))
  injective (begun r) (token t) a b same = let less = low t b in absurd (omega (arith, less, same))
  injective (begun r) (begun s) a b same = let rules : r ≡ s = omega (arith, same) in ap begun rules
  injective (begun r) (read q item) a b same = let less = low_rule r a in let high = read_high q item b in absurd (omega (arith, less, same, high))
  injective (begun r) (next q rule) a b same = let less = low_rule r a in let high = next_high q rule b in absurd (omega (arith, less, same, high))
  injective (read q item) (token t) a b same = let less = low t b in let high = read_high q item a in absurd (omega (arith, less, same, high))
  injective (read q item) (begun r) a b same = let less = low_rule r b in let high = read_high q item a in absurd (omega (arith, less, same, high))
  injective (read q item) (read r other) a b same = read_read q item r other a b same
  injective (read q item) (next r rule) a b same = absurd (read_next q item r rule a b same)
  injective (next q rule) (token t) a b same = let less = low t b in let high = next_high q rule a in absurd (omega (arith, less, same, high))
  injective (next q rule) (begun r) a b same = let less = low_rule r b in let high = next_high q rule a in absurd (omega (arith, less, same, high))
  injective (next q rule) (read r item) a b same = absurd (read_next r item q rule b a (sym same))
  injective (next q rule) (next r other) a b same = next_next q rule r other a b same

  pub start_within : n.tokens + n.rules < n.len
  start_within = let after = rests_after (length g.productions) (omega arith) in let upto = are.blocks.upto in omega (arith, after, upto)

  -- each node's number is one of the graph's
  pub number_within : (a : Node) → IsNode g x a → number n x a < n.len
  number_within (token t) a = let less = low t a in let after = start_within in omega (arith, less, after)
  number_within (begun r) a = let less = low_rule r a in let after = start_within in omega (arith, less, after)
  number_within (rest item) a = let end = rest_end item a in let upto = are.blocks.upto in omega (arith, end, upto)
  number_within (read q item) a = let end = (read_at q item a).end in let before = block_before q a.0 in omega (arith, end, before)
  number_within (next q rule) a = elim (next_at q rule a) [
    | placed place target at same here end ↦ let before = block_before q a.0 in omega (arith, end, before)
    | alone zero first here ↦ let after = start_within in omega (arith, here, after)
  ]
