-- What is known of nodes and their numbers where these are of a grammar.
use Rattle.std.proofs.Common.{◌≡◌, ◌+◌, ◌<◌, ℕ, [], Contains, get_or, length, arith, subst, sym}
use Rattle.cfgrammar.specs.Grammar.{Grammar, Sym}
use Rattle.cfgrammar.specs.Openings.{nth_production}
use Rattle.lr_states.specs.declared.Item.{Item}
use Rattle.lr_states.specs.Automaton.{Automaton}
use Rattle.lr_states.specs.Viable.{HasNext, IsUsed}
use Rattle.lr_states.proofs.Closed.{next_symbol}
use Rattle.lr_states.specs.Inner.Graph.{begun, item_after, next, node_at, rest, shown}
use Rattle.lr_states.specs.Inner.Numbers.{AreReady, IsNode, Numbers, item_number, number, rest_number, shown_number}
use Rattle.lr_states.proofs.Bounds.{rule_within}
use Rattle.lr_states.proofs.MadeEdges.{after_node, item_is, item_node, opened_node, rest_node, shown_is, symbol_node}
use Rattle.lr_states.proofs.Numbering.{number_within}

module _ (g : Grammar) (x : Automaton) (n : Numbers) (r : AreReady g x n) where
  pub used_within : (p : ℕ) → IsUsed g p → p < length g.productions
  used_within p used = used.within

  pub production_within : (q : ℕ) → q < length x.states → (item : Item) → Contains (get_or x.states q []) item → item.production < length g.productions
  production_within q within item among = let (prefix, viable, state) = r.states.only q within in used_within item.production ((state item).0 among).used

  pub next_low : (q rule : ℕ) → IsNode g x (next q rule) → number n x (next q rule) < n.len
  next_low q rule is = number_within g x n r.numbers r.targets r.states.sorted (next q rule) is

  pub is_item_number : (q : ℕ) → q < length x.states → (item : Item) → Contains (get_or x.states q []) item → item_number n x q item ≡ number n x (node_at g q item)
  is_item_number q within item among =
      item_is g r.grammar (IsUsed g) used_within x n r.numbers r.targets r.states r.gotos q item (production_within q within item among)

  pub item_low : (q : ℕ) → q < length x.states → (item : Item) → Contains (get_or x.states q []) item → item_number n x q item < n.len
  item_low q within item among = subst (λ m. m < n.len) (sym (is_item_number q within item among))
      (number_within g x n r.numbers r.targets r.states.sorted (node_at g q item)
      (item_node g r.grammar (IsUsed g) used_within x n r.numbers r.targets r.states r.gotos q within item among))

  -- the rule of an item of which nothing is read is next
  pub opened_next : (q : ℕ) → q < length x.states → (item : Item) → Contains (get_or x.states q []) item → item.read ≡ 0 → IsNode g x (next q (get_or n.owners item.production 0))
  opened_next q within item among unread =
      subst (λ rule. IsNode g x (next q rule)) (sym (r.numbers.owners item.production (production_within q within item among)))
      (opened_node g r.grammar (IsUsed g) used_within x n r.numbers r.targets r.states r.gotos q within item among unread)

  pub owner_low : (q : ℕ) → q < length x.states → (item : Item) → Contains (get_or x.states q []) item → item.production < length n.owners
  owner_low q within item among = subst (λ m. item.production < m) (sym r.numbers.productions) (production_within q within item among)

  pub rest_low : (item : Item) → IsNode g x (rest item) → (item.production < length n.rests) × (rest_number n item < n.len)
  rest_low item is =
      let count = r.numbers.rests.count in
      let there = is.0 in
      (omega (arith, there, count), number_within g x n r.numbers r.targets r.states.sorted (rest item) is)

  pub begun_low : (p : ℕ) → n.tokens + (nth_production g p).rule < n.len
  begun_low p = number_within g x n r.numbers r.targets r.states.sorted (begun (nth_production g p).rule) (rule_within g r.grammar p)

  pub unread_low : (item : Item) (symbol : Sym) → HasNext g item symbol → (item.production < length n.rests) × (rest_number n item < n.len)
  unread_low item symbol at = rest_low item (rest_node g r.grammar (IsUsed g) used_within x n r.numbers r.targets r.states r.gotos item symbol at)

  pub after_low : (item : Item) (symbol : Sym) → HasNext g item symbol → rest_number n (item_after item) < n.len
  after_low item symbol at = (rest_low (item_after item) (after_node g r.grammar (IsUsed g) used_within x n r.numbers r.targets r.states r.gotos item symbol at)).1

  pub shown_low : (item : Item) (symbol : Sym) → HasNext g item symbol → shown_number n symbol < n.len
  shown_low item symbol at = subst (λ m. m < n.len) (sym (shown_is n x symbol))
      (number_within g x n r.numbers r.targets r.states.sorted (shown symbol)
      (symbol_node g r.grammar (IsUsed g) used_within x n r.numbers r.targets r.states r.gotos symbol (next_symbol g r.grammar item symbol at)))
