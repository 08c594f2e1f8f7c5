-- The edges that are made are those of the graph.
use Rattle.std.proofs.Common.{◌≡◌, ◌==◌, ◌↔◌, ◌⊎◌, inl, inr, ℕ, zero, suc, ◌+◌, ◌-◌, ◌<◌, Bool, true, false, cond, nat_lt, List, [], ◌∷◌, ◌++◌, Option, None, Some, Contains, drop, get_or, length, slice_get, take, append-nil, refl, sym, ap, subst, ◌∙◌, arith, lt-ltb, true≢false}
use Rattle.std.proofs.lemmas.Bool.Decides.{Decides-eqb, Decides-ltb}
use Rattle.std.proofs.lemmas.Option.{slice_get_within}
use Rattle.search.specs.Reachable.{Reachable, led, seed}
use Rattle.cfgrammar.specs.Grammar.{Grammar, IsGrammar, IsSymbolOf, Sym, Rule, Token}
use Rattle.cfgrammar.specs.Derivation.{Derives}
use Rattle.cfgrammar.specs.Openings.{nth_production}
use Rattle.lr_states.specs.declared.Item.{Item}
use Rattle.lr_states.specs.declared.kernels.Target.{Target}
use Rattle.lr_states.specs.Automaton.{AreGotos, Automaton, HaveTargets, IsGoto, goto_of, symbol_number, target_of}
use Rattle.lr_states.specs.Viable.{AreStates, HasNext, IsStateOf, IsValid, Spine, inner, item_at, start}
use Rattle.lr_states.proofs.Closed.{next_symbol, next_within}
use Rattle.lr_states.proofs.Spines.{read_back, read_one, spine_item}
use Rattle.search.proofs.PathGroups.{contains_there}
use Rattle.lr_states.proofs.Targets.{target_state}
use Rattle.lr_states.specs.Lookaheads.{HasUsed, IsLookahead}
use Rattle.lr_states.specs.Inner.Graph.{LeadsTo, Node, begun, item_after, next, node_at, read, shown, token}
use Rattle.lr_states.specs.Inner.Graph as graph
use Rattle.lr_states.specs.Inner.Reached.{Leads}
use Rattle.lr_states.specs.Inner.Numbers.{AreNumbers, IsNode, Numbers, at_place, at_start, block_of, by_target, item_number, next_number, number, place_of_item, shown_number}
use Rattle.lr_states.specs.Inner.Edges.{IsEdge, ItemEdge, RestEdge, at_end, before_number, by_production, rule_at}
use Rattle.lr_states.specs.Inner.Edges as made
use Rattle.lr_states.proofs.Bounds.{rule_within}
use Rattle.lr_states.proofs.Reaching.{lookaheads_are_reached}
use Rattle.lr_states.proofs.Numbering.{injective, number_within}
use Rattle.lr_states.proofs.Places.{item_placed, place_holds, rule_placed, target_found}

-- the symbol with the number of a rule
rule_symbol : (rules : ℕ) (x : Sym) (k : ℕ) → symbol_number rules x ≡ k → k < rules → x ≡ Rule k
rule_symbol rules (Rule r) k is low = ap Rule is
rule_symbol rules (Token t) k is low = absurd (omega (arith, is, low))

-- a rule that a spine leads to is next in a valid item, or it is the start rule
opened_cases : (g : Grammar) (Used : ℕ → Type 0) {before after : List Sym} {rule : ℕ} → Spine g Used before rule after
    → ((before ≡ []) × (rule ≡ 0)) ⊎ ((item : Item) × IsValid g Used before item × HasNext g item (Rule rule))
opened_cases g Used start = inl (refl, refl)
opened_cases g Used (inner spine p used own early rest rule split) = let (valid, at) = spine_item g Used spine p used own early rest rule split in inr (item_at p (length early), valid, at)

pub shown_is : (n : Numbers) (x : Automaton) (symbol : Sym) → shown_number n symbol ≡ number n x (shown symbol)
shown_is n x (Rule r) = refl
shown_is n x (Token t) = refl

module _ (g : Grammar) (grammar : IsGrammar g) (Used : ℕ → Type 0) (bound : (p : ℕ) → Used p → p < length g.productions) (x : Automaton) (n : Numbers) (numbers : AreNumbers g x n)
    (ready : HaveTargets g x) (are : AreStates g Used x.states) (gotos : AreGotos g Used x) where
  abbrev items_at : ℕ → List Item
  items_at q = get_or x.states q []

  abbrev targets_at : ℕ → List Target
  targets_at q = get_or x.targets q []

  abbrev symbols_at : ℕ → List Sym
  symbols_at p = (nth_production g p).symbols

  goto_as : (q : ℕ) (symbol : Sym) (r : ℕ) (o : Option ℕ) → o ≡ Some r → IsGoto g Used x.states q symbol o → IsGoto g Used x.states q symbol (Some r)
  goto_as q symbol r o same is = subst (IsGoto g Used x.states q symbol) same is

  -- an item's next symbol leads to a state
  record Goes (q : ℕ) (item : Item) (symbol : Sym) : Type 0 where
    state : ℕ
    goes : goto_of x q symbol ≡ Some state
    inside : state < length x.states
    holds : Contains (items_at state) (item_at item.production (item.read + 1))

  goes_on : (q : ℕ) → q < length x.states → (item : Item) → Contains (items_at q) item → (symbol : Sym) → HasNext g item symbol → Goes q item symbol
  goes_on q within item among symbol at = go (goto_of x q symbol) refl (gotos q within symbol (next_symbol g grammar item symbol at))
    where
      go : (o : Option ℕ) → goto_of x q symbol ≡ o → IsGoto g Used x.states q symbol o → Goes q item symbol
      go None e none =
          let (prefix, viable, state) = are.only q within in
          let valid = read_one g Used prefix symbol item.production item.read at ((state item).0 among) in
          absurd (none prefix state (record { item = item_at item.production (item.read + 1); is = valid }))
      go (Some r) e (inside, leads) =
          let (prefix, viable, state) = are.only q within in
          let valid = read_one g Used prefix symbol item.production item.read at ((state item).0 among) in
          record { state = r; goes = e; inside = inside; holds = (leads prefix state (item_at item.production (item.read + 1))).1 valid }

  -- the target of a symbol
  target_for : (q : ℕ) (symbol : Sym) (r : ℕ) → goto_of x q symbol ≡ Some r
      → (place : ℕ) × (slice_get (targets_at q) place ≡ Some (record { symbol = symbol_number g.rules symbol; state = r }))
  target_for q symbol r goes = target_found (targets_at q) (symbol_number g.rules symbol) r (ap (λ m. target_of (targets_at q) (symbol_number m symbol)) (sym ready.rules) ∙ goes)

  pub next_node : (q : ℕ) → q < length x.states → (item : Item) → Contains (items_at q) item → (rule : ℕ) → HasNext g item (Rule rule) → IsNode g x (next q rule)
  next_node q within item among rule at =
      let goes = goes_on q within item among (Rule rule) at in
      let (place, is) = target_for q (Rule rule) goes.state goes.goes in
      (within, next_symbol g grammar item (Rule rule) at, by_target (record { symbol = rule; state = goes.state }) (contains_there (targets_at q) place _ is) refl)

  -- what comes after an item's next symbol
  pub after_node : (item : Item) (symbol : Sym) → HasNext g item symbol → IsNode g x (graph.rest (item_after item))
  after_node item symbol at =
      let low = slice_get_within (symbols_at item.production) item.read symbol at in
      (next_within g item symbol at, omega (arith, low))

  pub rest_node : (item : Item) (symbol : Sym) → HasNext g item symbol → IsNode g x (graph.rest item)
  rest_node item symbol at = let (there, low) = after_node item symbol at in (there, omega (arith, low))

  pub symbol_node : (symbol : Sym) → IsSymbolOf g symbol → IsNode g x (shown symbol)
  symbol_node (Rule r) is = is
  symbol_node (Token t) is = omega (arith, is)

  first_prefix : (q : ℕ) → q < length x.states → (prefix : List Sym) → IsStateOf g Used prefix (items_at q) → prefix ≡ [] → q ≡ 0
  first_prefix q within prefix state empty =
      let some : 0 < length x.states = omega (arith, within) in
      let here = subst (λ l. IsStateOf g Used l (items_at q)) empty state in
      let there = are.first some in
      are.distinct q 0 within some (λ item. ((λ h. (there item).1 ((here item).0 h)), (λ h. (here item).1 ((there item).0 h))))

  -- the rule of an item of which nothing is read is next, or it is the start rule
  pub opened_node : (q : ℕ) → q < length x.states → (item : Item) → Contains (items_at q) item → item.read ≡ 0 → IsNode g x (next q (nth_production g item.production).rule)
  opened_node q within item among unread =
      let (prefix, viable, state) = are.only q within in
      let v = (state item).0 among in
      let here : prefix ≡ v.before = v.is ∙ ap (λ m. v.before ++ take m (symbols_at item.production)) unread ∙ append-nil v.before in
      elim (opened_cases g Used v.spine) [
        | inl h ↦ (within, rule_within g grammar item.production, at_start (first_prefix q within prefix state (here ∙ h.0)) h.1)
        | inr h ↦ next_node q within h.0 ((state h.0).1 (subst (λ l. IsValid g Used l h.0) (sym here) h.1)) (nth_production g item.production).rule h.2
      ]

  pub item_node : (q : ℕ) → q < length x.states → (item : Item) → Contains (items_at q) item → IsNode g x (node_at g q item)
  item_node q within item among = go (item.read == 0) refl
    where
      go : (b : Bool) → (item.read == 0) ≡ b → IsNode g x (cond b (next q (nth_production g item.production).rule) (read q item))
      go true e = opened_node q within item among ((Decides-eqb item.read 0).0 e)
      go false e = (within, some item.read e, among)
        where
          some : (m : ℕ) → (m == 0) ≡ false → 0 < m
          some zero e = absurd (true≢false e)
          some (suc m) e = omega arith

  -- what a target of a state and an item of its state say of the item before
  pub record Moves (q : ℕ) (target : Target) (item : Item) : Type 0 where
    pub symbol : Sym
    pub number : symbol_number g.rules symbol ≡ target.symbol
    pub goes : goto_of x q symbol ≡ Some target.state
    pub inside : target.state < length x.states
    pub more : item.read - 1 + 1 ≡ item.read
    pub next : HasNext g (item_at item.production (item.read - 1)) symbol
    pub among : Contains (items_at q) (item_at item.production (item.read - 1))

  pub moves : (q place : ℕ) (target : Target) (index : ℕ) (item : Item) → q < length x.states → slice_get (targets_at q) place ≡ Some target
      → slice_get (items_at target.state) index ≡ Some item → 0 < item.read → Moves q target item
  moves q place target index item within at is some =
      let (symbol, known, num) = ready.symbols q within target (contains_there (targets_at q) place target at) in
      let goes : goto_of x q symbol ≡ Some target.state = ap (λ m. target_of (targets_at q) (symbol_number m symbol)) ready.rules ∙ ap (target_of (targets_at q)) num
      ∙ target_state (targets_at q) (ready.ascending q within) place target at in
      let leads = goto_as q symbol target.state (goto_of x q symbol) goes (gotos q within symbol known) in
      let (prefix, viable, state) = are.only q within in
      let more : item.read - 1 + 1 ≡ item.read = omega (arith, some) in
      let valid = (leads.1 prefix state item).0 (contains_there (items_at target.state) index item is) in
      let back = read_back g Used prefix symbol item.production (item.read - 1) (subst (λ m. IsValid g Used (prefix ++ symbol ∷ []) (item_at item.production m)) (sym more) valid) in
      record {
        symbol = symbol;
        number = num;
        goes = goes;
        inside = leads.0;
        more = more;
        next = back.0;
        among = (state (item_at item.production (item.read - 1))).1 back.1;
      }

  -- the number of an item's node
  pub item_is : (q : ℕ) (item : Item) → item.production < length g.productions → item_number n x q item ≡ number n x (node_at g q item)
  item_is q item there = go (item.read == 0)
    where
      go : (b : Bool) → cond b (next_number n x q (get_or n.owners item.production 0)) ((block_of n q).items + place_of_item (items_at q) item)
          ≡ number n x (cond b (next q (nth_production g item.production).rule) (read q item))
      go true = ap (next_number n x q) (numbers.owners item.production there)
      go false = refl

  -- the nodes of an edge
  record Led (a b : ℕ) : Type 0 where
    from : Node
    to : Node
    source : IsNode g x from
    dest : IsNode g x to
    first : a ≡ number n x from
    second : b ≡ number n x to
    leads : LeadsTo g Used x from to

  -- a target for a rule
  record RuleAt (q place : ℕ) (target : Target) (node : ℕ) : Type 0 where
    low : target.symbol < g.rules
    is : node ≡ number n x (next q target.symbol)

  rule_is : (q place : ℕ) (target : Target) (node : ℕ) → q < length x.states → slice_get (targets_at q) place ≡ Some target → rule_at g Used n x q place target ≡ Some node → RuleAt q place target node
  rule_is q place target node within at some = go (nat_lt target.symbol n.rules) refl some
    where
      go : (b : Bool) → nat_lt target.symbol n.rules ≡ b → cond b (Some ((block_of n q).rules + place)) None ≡ Some node → RuleAt q place target node
      go true lt e =
          let here : (block_of n q).rules + place ≡ node = cc in
          record {
            low = subst (λ m. target.symbol < m) numbers.rules ((Decides-ltb target.symbol n.rules).0 lt);
            is = sym here ∙ ap (at_place (n.tokens + n.rules) (block_of n q).rules) (sym (rule_placed (targets_at q) (ready.ascending q within) place target at));
          }
      go false lt e = absurd (cc)

  item_led : (q place : ℕ) (target : Target) (index : ℕ) (item : Item) (a b : ℕ) → q < length x.states → slice_get (targets_at q) place ≡ Some target
      → slice_get (items_at target.state) index ≡ Some item → 0 < item.read → ItemEdge g Used n x q item ((block_of n target.state).items + index) (rule_at g Used n x q place target) a b → Led a b
  item_led q place target index item a b within at is some (made.back first second) =
      let m = moves q place target index item within at is some in
      let before = item_at item.production (item.read - 1) in
      record {
        from = read target.state item;
        to = node_at g q before;
        source = (m.inside, some, contains_there (items_at target.state) index item is);
        dest = item_node q within before m.among;
        first = first ∙ ap (λ k. (block_of n target.state).items + k) (sym (item_placed (items_at target.state) (are.sorted target.state m.inside) index item is));
        second = second ∙ item_is q before (next_within g before m.symbol m.next);
        leads = subst (λ k. LeadsTo g Used x (read target.state (item_at item.production k)) (node_at g q before)) m.more (graph.back q within before m.among m.symbol m.next target.state m.goes);
      }
  item_led q place target index item a b within at is some (made.comes node for first second) =
      let m = moves q place target index item within at is some in
      let before = item_at item.production (item.read - 1) in
      let rule = rule_is q place target node within at for in
      let next' : HasNext g before (Rule target.symbol) = subst (HasNext g before) (rule_symbol g.rules m.symbol target.symbol m.number rule.low) m.next in
      record {
        from = next q target.symbol;
        to = graph.rest item;
        source = next_node q within before m.among target.symbol next';
        dest = subst (λ k. IsNode g x (graph.rest (item_at item.production k))) m.more (after_node before m.symbol m.next);
        first = first ∙ rule.is;
        second = second;
        leads = subst (λ k. LeadsTo g Used x (next q target.symbol) (graph.rest (item_at item.production k))) m.more (graph.comes q within before m.among target.symbol next');
      }
  item_led q place target index item a b within at is some (made.ends node for nullable first second) =
      let m = moves q place target index item within at is some in
      let before = item_at item.production (item.read - 1) in
      let rule = rule_is q place target node within at for in
      let next' : HasNext g before (Rule target.symbol) = subst (HasNext g before) (rule_symbol g.rules m.symbol target.symbol m.number rule.low) m.next in
      record {
        from = next q target.symbol;
        to = node_at g q before;
        source = next_node q within before m.among target.symbol next';
        dest = item_node q within before m.among;
        first = first ∙ rule.is;
        second = second ∙ item_is q before (next_within g before m.symbol m.next);
        leads = graph.ends q within before m.among target.symbol next' (subst (λ k. Derives (HasUsed g Used) (drop k (symbols_at item.production)) []) (sym m.more) nullable);
      }

  rest_led : (item : Item) → Used item.production → (symbol : Sym) → HasNext g item symbol → (a b : ℕ) → RestEdge g Used n x item symbol a b → Led a b
  rest_led item used symbol at a b (made.shows first second) = record {
    from = graph.rest item;
    to = shown symbol;
    source = rest_node item symbol at;
    dest = symbol_node symbol (next_symbol g grammar item symbol at);
    first = first;
    second = second ∙ shown_is n x symbol;
    leads = graph.shows item used symbol at;
  }
  rest_led item used symbol at a b (made.skips nullable first second) = record {
    from = graph.rest item;
    to = graph.rest (item_after item);
    source = rest_node item symbol at;
    dest = after_node item symbol at;
    first = first;
    second = second;
    leads = graph.skips item used symbol at nullable;
  }

  led_of : (a b : ℕ) → IsEdge g Used n x a b → Led a b
  led_of a b (at_end e) = record {
    from = next 0 0;
    to = token b;
    source = (e.some, grammar.start, at_start refl refl);
    dest = let is = e.target in omega (arith, is);
    first = e.source;
    second = refl;
    leads = graph.finish e.some b e.target;
  }
  led_of a b (by_production p within e) = elim e.edge [
    | inl h ↦ record {
      from = begun (nth_production g p).rule;
      to = graph.rest (item_at p 0);
      source = rule_within g grammar p;
      dest = (within, omega arith);
      first = h.0;
      second = h.1;
      leads = graph.begins p e.used;
    }
    | inr k ↦ rest_led (item_at p k.index) e.used k.finds.symbol k.finds.at a b k.finds.edge
  ]
  led_of a b (made.by_target q place within e) = item_led q place e.target e.index e.edge.item a b within e.at e.edge.is e.edge.some e.edge.edge

  -- an item's edges, by its target and the item after its next symbol
  edge_by : (q : ℕ) → q < length x.states → (item : Item) → (symbol : Sym) → (r : ℕ) → goto_of x q symbol ≡ Some r → r < length x.states → Contains (items_at r) (item_at item.production (item.read + 1)) → (a b : ℕ)
      → ((place : ℕ) → slice_get (targets_at q) place ≡ Some (record { symbol = symbol_number g.rules symbol; state = r })
      → ItemEdge g Used n x q (item_at item.production (item.read + 1)) (number n x (read r (item_at item.production (item.read + 1)))) (rule_at g Used n x q place (record { symbol = symbol_number g.rules symbol; state = r })) a b)
      → IsEdge g Used n x a b
  edge_by q within item symbol r goes inside holds a b edge =
      let (place, at) = target_for q symbol r goes in
      let after = item_at item.production (item.read + 1) in
      made.by_target q place within (record {
        target = record { symbol = symbol_number g.rules symbol; state = r };
        at = at;
        index = place_of_item (items_at r) after;
        edge = record { item = after; is = place_holds (items_at r) (are.sorted r inside) after holds; some = omega arith; edge = edge place at };
      })

  -- the number of a rule that is next, by its target
  rule_there : (q rule r place : ℕ) → q < length x.states → rule < g.rules → slice_get (targets_at q) place ≡ Some (record { symbol = rule; state = r })
      → rule_at g Used n x q place (record { symbol = rule; state = r }) ≡ Some (number n x (next q rule))
  rule_there q rule r place within low at =
      ap (λ b. cond b (Some ((block_of n q).rules + place)) None) (lt-ltb rule n.rules (subst (λ m. rule < m) (sym numbers.rules) low))
      ∙ ap (λ o. Some (at_place (n.tokens + n.rules) (block_of n q).rules o)) (sym (rule_placed (targets_at q) (ready.ascending q within) place (record { symbol = rule; state = r }) at))

  before_is : (q : ℕ) (item : Item) → item.production < length g.productions → number n x (node_at g q item) ≡ before_number g Used n x q (item_at item.production (item.read + 1))
  before_is q item there =
      let same : item.read ≡ item.read + 1 - 1 = omega arith in
      sym (item_is q item there) ∙ ap (λ k. item_number n x q (item_at item.production k)) same

  rest_edge : (item : Item) → Used item.production → (symbol : Sym) → HasNext g item symbol → (a b : ℕ) → RestEdge g Used n x item symbol a b → IsEdge g Used n x a b
  rest_edge item used symbol at a b edge = by_production item.production (bound item.production used) (record {
    used = used;
    edge = inr (record {
      index = item.read;
      below = slice_get_within (symbols_at item.production) item.read symbol at;
      finds = record { symbol = symbol; at = at; edge = edge };
    });
  })

  edge_of : {a b : Node} → LeadsTo g Used x a b → IsEdge g Used n x (number n x a) (number n x b)
  edge_of (graph.begins p used) = by_production p (bound p used) (record { used = used; edge = inl (refl, refl) })
  edge_of (graph.shows item used symbol at) = rest_edge item used symbol at _ _ (made.shows refl (sym (shown_is n x symbol)))
  edge_of (graph.skips item used symbol at nullable) = rest_edge item used symbol at _ _ (made.skips nullable refl refl)
  edge_of (graph.comes q within item among rule at) =
      let goes = goes_on q within item among (Rule rule) at in
      edge_by q within item (Rule rule) goes.state goes.goes goes.inside goes.holds _ _
      (λ place is. made.comes (number n x (next q rule)) (rule_there q rule goes.state place within (next_symbol g grammar item (Rule rule) at) is) refl refl)
  edge_of (graph.ends q within item among rule at nullable) =
      let goes = goes_on q within item among (Rule rule) at in
      edge_by q within item (Rule rule) goes.state goes.goes goes.inside goes.holds _ _
      (λ place is. made.ends (number n x (next q rule)) (rule_there q rule goes.state place within (next_symbol g grammar item (Rule rule) at) is) nullable refl (before_is q item (next_within g item _ at)))
  edge_of (graph.back q within item among symbol at r leads) =
      let goes = goes_on q within item among symbol at in
      let some : Some goes.state ≡ Some r = sym goes.goes ∙ leads in
      let same : goes.state ≡ r = cc in
      edge_by q within item symbol r leads (subst (λ s. s < length x.states) same goes.inside) (subst (λ s. Contains (items_at s) (item_at item.production (item.read + 1))) same goes.holds) _ _
      (λ place is. made.back refl (before_is q item (next_within g item _ at)))
  edge_of (graph.finish some t is) = at_end (record { some = some; source = refl; target = is })

  -- edges lead to nodes
  pub edge_within : (a b : ℕ) → IsEdge g Used n x a b → b < n.len
  edge_within a b e = let l = led_of a b e in subst (λ m. m < n.len) (sym l.second) (number_within g x n numbers ready are.sorted l.to l.dest)

  module _ (edges : List (List ℕ)) (all : (a b : ℕ) → Leads edges a b ↔ IsEdge g Used n x a b) where
    numbers_reached : {a b : Node} → Reachable (λ m. m ≡ a) (LeadsTo g Used x) b → Reachable (λ m. m ≡ number n x a) (Leads edges) (number n x b)
    numbers_reached (seed same) = seed (ap (number n x) same)
    numbers_reached (led {a = c} {b = d} h leads) = led (numbers_reached h) ((all (number n x c) (number n x d)).1 (edge_of leads))

    -- the node with a number that is reached
    record NodeReached (a : Node) (m : ℕ) : Type 0 where
      node : Node
      is : IsNode g x node
      same : m ≡ number n x node
      reached : Reachable (λ k. k ≡ a) (LeadsTo g Used x) node

    nodes_reached : (a : Node) → IsNode g x a → {m : ℕ} → Reachable (λ k. k ≡ number n x a) (Leads edges) m → NodeReached a m
    nodes_reached a is (seed same) = record { node = a; is = is; same = same; reached = seed refl }
    nodes_reached a is (led {a = k} {b = m} h edge) =
        let w = nodes_reached a is h in
        let l = led_of k m ((all k m).0 edge) in
        let equal : w.node ≡ l.from = injective g x n numbers ready are.sorted w.node l.from w.is l.source (sym w.same ∙ l.first) in
        record { node = l.to; is = l.dest; same = l.second; reached = led (subst (Reachable (λ j. j ≡ a) (LeadsTo g Used x)) equal w.reached) l.leads }

    -- the tokens that are reached from the node of an item are its lookaheads
    pub item_reaches : (q : ℕ) → q < length x.states → (item : Item) → Contains (items_at q) item → (t : ℕ) → t < g.tokens
        → Reachable (λ k. k ≡ number n x (node_at g q item)) (Leads edges) t ↔ IsLookahead g Used (items_at q) item t
    item_reaches q within item among t low =
        let known = lookaheads_are_reached g grammar Used x are gotos q within item among t in (
          (λ h.
              let w = nodes_reached (node_at g q item) (item_node q within item among) h in
              let equal : w.node ≡ token t = injective g x n numbers ready are.sorted w.node (token t) w.is low (sym w.same) in
              known.0 (subst (Reachable (λ k. k ≡ node_at g q item) (LeadsTo g Used x)) equal w.reached)),
          (λ l. numbers_reached (known.1 l)),
        )
