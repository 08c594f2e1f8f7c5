-- The edges of items, targets and states, as they are pushed.
use Rattle.std.proofs.Common.{◌≡◌, ◌↔◌, ◌⊎◌, inl, inr, ℕ, ◌+◌, ◌-◌, ◌<◌, ◌≤◌, Bool, true, false, IfSome, cond, nat_lt, List, [], ◌∷◌, Option, None, Some, Contains, get_or, length, replicate, slice_get, refl, sym, ap, subst, ◌∙◌, arith}
use Rattle.std.proofs.lemmas.Bool.Decides.{Decides-ltb}
use Rattle.std.proofs.lemmas.Option.{slice_get-get_or, slice_get_within}
use Rattle.cfgrammar.proofs.Contained.{contains_none}
use Rattle.cfgrammar.proofs.Elements.{get_or-replicate_default}
use Rattle.cfgrammar.specs.Grammar.{Grammar, Sym}
use Rattle.cfgrammar.specs.Derivation.{Derives}
use Rattle.cfgrammar.specs.Openings.{nth_production}
use Rattle.lr_states.specs.declared.Item.{Item}
use Rattle.lr_states.specs.declared.kernels.Target.{Target}
use Rattle.lr_states.specs.Automaton.{Automaton, IsGoto, goto_of, symbol_number, target_of}
use Rattle.lr_states.specs.Viable.{HasNext, IsUsed, item_at}
use Rattle.search.proofs.PathGroups.{contains_there}
use Rattle.lr_states.proofs.Targets.{target_state}
use Rattle.lr_states.specs.Lookaheads.{HasUsed}
use Rattle.lr_states.specs.Inner.Graph.{item_after, unread_of}
use Rattle.lr_states.specs.Inner.Numbers.{AreReady, IsBlock, Numbers, block_of, rest_number, shown_number}
use Rattle.lr_states.specs.Inner.Edges.{AddsEdges, Below, EndEdge, IsEdge, ItemEdge, KernelEdge, ProductionEdge, RestEdge, StateEdge, SymbolEdge, TargetEdge, at_end, back, before_number, by_production, by_target, comes, ends, rule_at, shows, skips}
use Rattle.lr_states.specs.Inner.Reached.{Leads}
use Rattle.lr_states.proofs.Adds.{IsOne, adds_as, adds_then}
use Rattle.lr_states.proofs.MadeEdges.{moves}
use Rattle.lr_states.proofs.Numbering.{block_before, block_is}
use Rattle.lr_states.proofs.Ready.{production_within, used_within}

-- the edges by an item's next symbol
module _ (g : Grammar) (Used : ℕ → Type 0) (n : Numbers) (x : Automaton) (item : Item) (symbol : Sym) (node to : ℕ) (is : node ≡ rest_number n item) (shown : to ≡ shown_number n symbol) where
  pub rest_shows : (Derives (HasUsed g Used) (symbol ∷ []) [] → ⊥) → (old new : List (List ℕ)) → AddsEdges (IsOne node to) old new → AddsEdges (RestEdge g Used n x item symbol) old new
  rest_shows full old new w = adds_as (IsOne node to) (RestEdge g Used n x item symbol) old new (λ a b h. shows (h.0 ∙ is) (h.1 ∙ shown)) (λ a b e. go a b e) w
    where
      go : (a b : ℕ) → RestEdge g Used n x item symbol a b → IsOne node to a b
      go a b (shows first second) = (first ∙ sym is, second ∙ sym shown)
      go a b (skips nullable first second) = absurd (full nullable)

  pub rest_skips : Derives (HasUsed g Used) (symbol ∷ []) [] → (more : ℕ) → more ≡ node + 1 → (old mid new : List (List ℕ)) → AddsEdges (IsOne node to) old mid → AddsEdges (IsOne node more) mid new
      → AddsEdges (RestEdge g Used n x item symbol) old new
  rest_skips nullable more more_is old mid new w v = adds_as (λ a b. IsOne node to a b ⊎ IsOne node more a b) (RestEdge g Used n x item symbol) old new
      (λ a b h. elim h [ inl k ↦ shows (k.0 ∙ is) (k.1 ∙ shown) | inr k ↦ skips nullable (k.0 ∙ is) (k.1 ∙ onwards) ])
      (λ a b e. go a b e)
      (adds_then (IsOne node to) (IsOne node more) old mid new w v)
    where
      onwards : more ≡ rest_number n (item_after item)
      onwards = omega (arith, more_is, is)

      go : (a b : ℕ) → RestEdge g Used n x item symbol a b → IsOne node to a b ⊎ IsOne node more a b
      go a b (shows first second) = inl (first ∙ sym is, second ∙ sym shown)
      go a b (skips empty first second) = inr (first ∙ sym is, second ∙ sym onwards)

-- one symbol more of a production
pub symbol_one : (g : Grammar) (Used : ℕ → Type 0) (n : Numbers) (x : Automaton) (p index : ℕ) (symbol : Sym) → HasNext g (item_at p index) symbol → (old new : List (List ℕ))
    → AddsEdges (RestEdge g Used n x (item_at p index) symbol) old new → AddsEdges (SymbolEdge g Used n x p index) old new
symbol_one g Used n x p index symbol at old new w = adds_as (RestEdge g Used n x (item_at p index) symbol) (SymbolEdge g Used n x p index) old new
    (λ a b e. record { symbol = symbol; at = at; edge = e })
    (λ a b k.
    let some : Some k.symbol ≡ Some symbol = sym k.at ∙ at in
    let same : k.symbol ≡ symbol = cc in
    subst (λ y. RestEdge g Used n x (item_at p index) y a b) same k.edge)
    w

-- the edges of an item before its last symbol was read
module _ (g : Grammar) (Used : ℕ → Type 0) (n : Numbers) (x : Automaton) (q : ℕ) (item : Item) (after : ℕ) (node : ℕ) (is : node ≡ before_number g Used n x q item) where
  abbrev Edge : Option ℕ → ℕ → ℕ → Type 0
  Edge rule = ItemEdge g Used n x q item after rule

  pub item_alone : (rule : Option ℕ) → rule ≡ None → (old new : List (List ℕ)) → AddsEdges (IsOne after node) old new → AddsEdges (Edge rule) old new
  item_alone rule none old new w = adds_as (IsOne after node) (Edge rule) old new (λ a b h. back h.0 (h.1 ∙ is)) (λ a b e. go a b e) w
    where
      go : (a b : ℕ) → Edge rule a b → IsOne after node a b
      go a b (back first second) = (first, second ∙ sym is)
      go a b (comes m some first second) = absurd (cc)
      go a b (ends m some nullable first second) = absurd (cc)

  module _ (m : ℕ) (rule : Option ℕ) (some : rule ≡ Some m) (rest : ℕ) (rest_is : rest ≡ rest_number n item) (old mid new : List (List ℕ))
      (w : AddsEdges (IsOne after node) old mid) (v : AddsEdges (IsOne m rest) mid new) where
    pub item_comes : (Derives (HasUsed g Used) (unread_of g item) [] → ⊥) → AddsEdges (Edge rule) old new
    item_comes full = adds_as (λ a b. IsOne after node a b ⊎ IsOne m rest a b) (Edge rule) old new
        (λ a b h. elim h [ inl k ↦ back k.0 (k.1 ∙ is) | inr k ↦ comes m some k.0 (k.1 ∙ rest_is) ]) (λ a b e. go a b e)
        (adds_then (IsOne after node) (IsOne m rest) old mid new w v)
      where
        go : (a b : ℕ) → Edge rule a b → IsOne after node a b ⊎ IsOne m rest a b
        go a b (back first second) = inl (first, second ∙ sym is)
        go a b (comes k other first second) = let same : k ≡ m = cc in inr (first ∙ same, second ∙ sym rest_is)
        go a b (ends k other nullable first second) = absurd (full nullable)

    pub item_ends : Derives (HasUsed g Used) (unread_of g item) [] → (last : List (List ℕ)) → AddsEdges (IsOne m node) new last → AddsEdges (Edge rule) old last
    item_ends empty last u = adds_as (λ a b. (IsOne after node a b ⊎ IsOne m rest a b) ⊎ IsOne m node a b) (Edge rule) old last
        (λ a b h. elim h [
          | inl k ↦ elim k [ inl j ↦ back j.0 (j.1 ∙ is) | inr j ↦ comes m some j.0 (j.1 ∙ rest_is) ]
          | inr k ↦ ends m some empty k.0 (k.1 ∙ is)
        ])
        (λ a b e. go a b e)
        (adds_then (λ a b. IsOne after node a b ⊎ IsOne m rest a b) (IsOne m node) old new last (adds_then (IsOne after node) (IsOne m rest) old mid new w v) u)
      where
        go : (a b : ℕ) → Edge rule a b → (IsOne after node a b ⊎ IsOne m rest a b) ⊎ IsOne m node a b
        go a b (back first second) = inl (inl (first, second ∙ sym is))
        go a b (comes k other first second) = let same : k ≡ m = cc in inl (inr (first ∙ same, second ∙ sym rest_is))
        go a b (ends k other nullable first second) = let same : k ≡ m = cc in inr (first ∙ same, second ∙ sym is)

-- a target of a state
module _ (g : Grammar) (x : Automaton) (n : Numbers) (r : AreReady g x n) (q : ℕ) (within : q < length x.states) (place : ℕ) (target : Target)
    (at : slice_get (get_or x.targets q []) place ≡ Some target) where
  abbrev Used : ℕ → Type 0
  Used = IsUsed g

  pub target_inside : target.state < length x.states
  target_inside =
      let (symbol, known, num) = r.targets.symbols q within target (contains_there (get_or x.targets q []) place target at) in
      let goes : goto_of x q symbol ≡ Some target.state = ap (λ m. target_of (get_or x.targets q []) (symbol_number m symbol)) r.targets.rules
      ∙ ap (target_of (get_or x.targets q [])) num ∙ target_state (get_or x.targets q []) (r.targets.ascending q within) place target at in
      (subst (IsGoto g Used x.states q symbol) goes (r.gotos q within symbol known)).0

  is_block : IsBlock g.rules (get_or x.states target.state []) (get_or x.targets target.state []) (block_of n target.state)
  is_block = block_is g x n r.numbers r.targets r.states.sorted target.state target_inside

  -- an item of its state with symbols read
  pub record KernelItem (index : ℕ) (item : Item) : Type 0 where
    pub is : slice_get (get_or x.states target.state []) index ≡ Some item
    pub some : 0 < item.read
    pub production : item.production < length g.productions
    pub read : item.read ≤ length (nth_production g item.production).symbols
    pub before : Contains (get_or x.states q []) (item_at item.production (item.read - 1))
    pub low : (block_of n target.state).items + index < n.len

  pub kernel_item : (index : ℕ) → index < (block_of n target.state).rules - (block_of n target.state).items → (d : Item) → KernelItem index (get_or (get_or x.states target.state []) index d)
  kernel_item index below d =
      let b = is_block in
      let first = b.first in
      let inside = b.within in
      let last = b.last in
      let end = block_before g x n r.numbers r.targets r.states.sorted target.state target_inside in
      let item = get_or (get_or x.states target.state []) index d in
      let is = slice_get-get_or (get_or x.states target.state []) index d (omega (arith, below, first, inside)) in
      let some = (b.reads index item is).1 (omega (arith, below, first)) in
      let among = contains_there (get_or x.states target.state []) index item is in
      let m = moves g r.grammar Used (used_within g x n r) x n r.numbers r.targets r.states r.gotos q place target index item within at is some in
      let (prefix, viable, state) = r.states.only target.state target_inside in
      record {
        is = is;
        some = some;
        production = production_within g x n r target.state target_inside item among;
        read = ((state item).0 among).read;
        before = m.among;
        low = omega (arith, below, first, last, end);
      }

  pub rule_low : IfSome (rule_at g Used n x q place target) (λ node. node < n.len)
  rule_low = go (nat_lt target.symbol n.rules) refl
    where
      go : (b : Bool) → nat_lt target.symbol n.rules ≡ b → IfSome (cond b (Some ((block_of n q).rules + place)) None) (λ node. node < n.len)
      go true lt =
          let low = (Decides-ltb target.symbol n.rules).0 lt in
          let here = block_is g x n r.numbers r.targets r.states.sorted q within in
          let next = here.nexts place target at (subst (λ m. target.symbol < m) r.numbers.rules low) in
          let end = block_before g x n r.numbers r.targets r.states.sorted q within in
          omega (arith, next, end)
      go false lt = tt

  pub kernel_one : (index : ℕ) (item : Item) → slice_get (get_or x.states target.state []) index ≡ Some item → 0 < item.read → (after : ℕ) → after ≡ (block_of n target.state).items + index → (rule : Option ℕ) → rule ≡ rule_at g Used n x q place target
      → (old new : List (List ℕ)) → AddsEdges (ItemEdge g Used n x q item after rule) old new → AddsEdges (KernelEdge g Used n x q place target index) old new
  kernel_one index item is some after after_is rule rule_is old new w =
      adds_as (ItemEdge g Used n x q item ((block_of n target.state).items + index) (rule_at g Used n x q place target)) (KernelEdge g Used n x q place target index) old new
      (λ a b e. record { item = item; is = is; some = some; edge = e })
      (λ a b k.
      let other = k.is in
      let same : k.item ≡ item = cc in
      subst (λ i. ItemEdge g Used n x q i ((block_of n target.state).items + index) (rule_at g Used n x q place target) a b) same k.edge)
      (subst (λ m. AddsEdges (ItemEdge g Used n x q item ((block_of n target.state).items + index) m) old new) rule_is
      (subst (λ m. AddsEdges (ItemEdge g Used n x q item m rule) old new) after_is w))

  pub target_all : (i : ℕ) → (block_of n target.state).rules - (block_of n target.state).items ≤ i → (old new : List (List ℕ)) → AddsEdges (Below (KernelEdge g Used n x q place target) i) old new
      → AddsEdges (TargetEdge g Used n x q place) old new
  target_all i most old new w = adds_as (Below (KernelEdge g Used n x q place target) i) (TargetEdge g Used n x q place) old new
      (λ a b k. record { target = target; at = at; index = k.index; edge = k.finds })
      (λ a b e.
      let other = e.at in
      let same : e.target ≡ target = cc in
      let k = subst (λ t. KernelEdge g Used n x q place t e.index a b) same e.edge in
      let low = (is_block.reads e.index k.item k.is).0 k.some in
      let first = is_block.first in
      record { index = e.index; below = omega (arith, low, most, first); finds = k })
      w

module _ (g : Grammar) (Used : ℕ → Type 0) (n : Numbers) (x : Automaton) where
  -- all that was pushed to a table with no edges
  pub all_edges : (len : ℕ) (edges : List (List ℕ)) → AddsEdges (λ a b. (EndEdge g Used n x a b ⊎ Below (ProductionEdge g Used n x) (length g.productions) a b) ⊎ Below (StateEdge g Used n x) (length x.states) a b) (replicate len []) edges
      → (a b : ℕ) → Leads edges a b ↔ IsEdge g Used n x a b
  all_edges len edges w a b = (
    (λ h. elim ((w.edges a b).0 h) [
      | inl none ↦ absurd (contains_none b (subst (λ l. Contains l b) (get_or-replicate_default len a []) none))
      | inr k ↦ elim k [
        | inl j ↦ elim j [ inl e ↦ at_end e | inr e ↦ by_production e.index e.below e.finds ]
        | inr e ↦ by_target e.index e.finds.index e.below e.finds.finds
      ]
    ]),
    (λ e. (w.edges a b).1 (inr (go e))),
  )
    where
      go : IsEdge g Used n x a b → (EndEdge g Used n x a b ⊎ Below (ProductionEdge g Used n x) (length g.productions) a b) ⊎ Below (StateEdge g Used n x) (length x.states) a b
      go (at_end e) = inl (inl e)
      go (by_production p low e) = inl (inr (record { index = p; below = low; finds = e }))
      go (by_target q place low e) = inr (record { index = q; below = low; finds = record { index = place; below = slice_get_within (get_or x.targets q []) place e.target e.at; finds = e } })
