-- What the rows of a graph's nodes say of items.
use Rattle.std.proofs.Common.{◌≡◌, ◌↔◌, ◌<◌, ◌≤◌, ℕ, Bool, List, [], Contains, ap, get_or, length, map, subst, sym, zero-add, ◌∙◌, arith}
use Rattle.std.specs.List.{range_with_len}
use Rattle.std.proofs.lemmas.List.{get_or-map}
use Rattle.std.proofs.lemmas.List.FromFn.{get_or-range_with_len, length-range_with_len}
use Rattle.std.proofs.lemmas.Option.{get_or_from_slice_get, slice_get_within}
use Rattle.search.specs.Components.{ReachableFrom}
use Rattle.cfgrammar.specs.Grammar.{Grammar}
use Rattle.lr_states.specs.declared.Item.{Item}
use Rattle.lr_states.specs.Automaton.{Automaton}
use Rattle.lr_states.specs.Viable.{AreSorted, IsUsed}
use Rattle.lr_states.specs.Lookaheads.{AreLookaheads, IsLookahead, tokens_of}
use Rattle.lr_states.specs.Inner.Numbers.{AreReady, Numbers, item_number, place_of_item, rows_of}
use Rattle.lr_states.specs.Inner.Edges.{IsEdge}
use Rattle.lr_states.specs.Inner.Reached.{AreWithin, HasReached, IsOn, Leads}
use Rattle.lr_states.proofs.MadeEdges.{edge_within, item_reaches}
use Rattle.lr_states.proofs.Numbering.{start_within}
use Rattle.lr_states.proofs.Places.{place_holds}
use Rattle.lr_states.proofs.Ready.{is_item_number, item_low, used_within}

-- the row of an item is that of its node
pub tokens_at : (x : Automaton) (n : Numbers) (rows : List (List Bool)) (q : ℕ) → q < length x.states → AreSorted (get_or x.states q []) → (item : Item) → Contains (get_or x.states q []) item
    → tokens_of (record { automaton = x; rows = rows_of n x rows }) q item ≡ get_or rows (item_number n x q item) []
tokens_at x n rows q within sorted item among =
    let items = get_or x.states q [] in
    let row : ℕ → Item → List Bool = λ p other. get_or rows (item_number n x p other) [] in
    let all = range_with_len 0 (length x.states) in
    let long : length all ≡ length x.states = length-range_with_len 0 (length x.states) in
    let state : get_or all q 0 ≡ q = get_or-range_with_len 0 (length x.states) q 0 within ∙ zero-add q in
    let lists : get_or (rows_of n x rows) q [] ≡ map (row q) items =
    get_or-map (λ p. map (row p) (get_or x.states p [])) all q 0 [] (subst (λ m. q < m) (sym long) within) ∙ ap (λ p. map (row p) (get_or x.states p [])) state in
    let place = place_of_item items item in
    let at = place_holds items sorted item among in
    ap (λ l. get_or l place []) lists ∙ get_or-map (row q) items place item [] (slice_get_within items place item at) ∙ ap (row q) (get_or_from_slice_get items place item item at)

module _ (g : Grammar) (x : Automaton) (n : Numbers) (r : AreReady g x n) (edges : List (List ℕ)) (count : length edges ≡ n.len)
    (all : (a b : ℕ) → Leads edges a b ↔ IsEdge g (IsUsed g) n x a b) where
  pub edges_within : AreWithin edges
  edges_within a b h = subst (λ m. b < m) (sym count) (edge_within g r.grammar (IsUsed g) (used_within g x n r) x n r.numbers r.targets r.states r.gotos a b ((all a b).0 h))

  pub tokens_within : n.tokens ≤ length edges
  tokens_within = let start = start_within g x n r.numbers r.targets r.states.sorted in omega (arith, start, count)

  pub tokens_there : (rows : List (List Bool)) (q : ℕ) → q < length x.states → (item : Item) → Contains (get_or x.states q []) item
      → tokens_of (record { automaton = x; rows = rows_of n x rows }) q item ≡ get_or rows (item_number n x q item) []
  tokens_there rows q within item among = tokens_at x n rows q within (r.states.sorted q within) item among

  pub are_lookaheads : (rows : List (List Bool)) → ((node : ℕ) → node < length edges → HasReached edges n.tokens node (get_or rows node []))
      → AreLookaheads g (IsUsed g) (record { automaton = x; rows = rows_of n x rows })
  are_lookaheads rows reached q within item among t low =
      let node = item_number n x q item in
      let row = reached node (subst (λ m. node < m) (sym count) (item_low g x n r q within item among)) in
      let bit = row.each t (subst (λ m. t < m) (sym r.numbers.tokens) low) in
      let means = subst (λ m. ReachableFrom (Leads edges) m t ↔ IsLookahead g (IsUsed g) (get_or x.states q []) item t) (sym (is_item_number g x n r q within item among))
      (item_reaches g r.grammar (IsUsed g) (used_within g x n r) x n r.numbers r.targets r.states r.gotos edges all q within item among t low) in
      subst (λ l. IsOn l t ↔ IsLookahead g (IsUsed g) (get_or x.states q []) item t) (sym (tokens_there rows q within item among))
      ((λ on. means.0 (bit.0 on)), (λ l. bit.1 (means.1 l)))
