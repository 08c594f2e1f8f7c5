-- Whatever token a node asks for is reached from it.
use Rattle.std.proofs.Common.{◌≡◌, inl, inr, ℕ, zero, suc, ◌+◌, ◌<◌, ◌≤◌, cond, List, [], ◌∷◌, ◌++◌, Option, None, Some, Contains, append-nil, append_assoc, get_or, slice_get, drop, length, take, length-append, add-one, refl, sym, ap, subst, ◌∙◌, arith}
use Rattle.std.proofs.lemmas.Bool.{ne_eqb}
use Rattle.std.proofs.lemmas.List.{drop_at, length-drop, length_push, take_at}
use Rattle.search.specs.Reachable.{Reachable, led, seed}
use Rattle.cfgrammar.specs.Grammar.{Grammar, IsGrammar, Sym, Rule, Token}
use Rattle.cfgrammar.specs.Derivation.{Derives}
use Rattle.cfgrammar.specs.First.{Nullable}
use Rattle.cfgrammar.specs.FirstSets.{Begins, IsClosed}
use Rattle.derivation.proofs.Firsts.{begins_derived, derived_closed}
use Rattle.cfgrammar.specs.Openings.{nth_production}
use Rattle.cfgrammar.proofs.Elements.{element_at}
use Rattle.lr_states.specs.declared.Item.{Item}
use Rattle.lr_states.specs.Viable.{AreStates, HasNext, IsStateOf, IsValid, IsViable, Spine, inner, item_at, start}
use Rattle.lr_states.specs.Automaton.{AreGotos, Automaton, IsGoto, goto_of}
use Rattle.lr_states.proofs.Spines.{more_read, slice_at}
use Rattle.lr_states.proofs.Closed.{next_symbol}
use Rattle.lr_states.specs.Lookaheads.{HasUsed, IsLookahead, MayBegin, begins, ends}
use Rattle.lr_states.specs.Inner.Graph.{LeadsTo, Node, begun, item_after, next, node_at, token, unread_of}
use Rattle.lr_states.specs.Inner.Graph as graph
use Rattle.lr_states.proofs.Firsts.{BeginsIn, begins_in, begins_none, first, second}
use Rattle.lr_states.proofs.Sound.{unread_at}

-- the next symbol of an item, by what isn't read of it
unread_next : (g : Grammar) (item : Item) (symbol : Sym) (symbols : List Sym) → unread_of g item ≡ symbol ∷ symbols → HasNext g item symbol × (unread_of g (item_after item) ≡ symbols)
unread_next g item symbol symbols is =
    let all = (nth_production g item.production).symbols in
    let long = ap length is in
    let left = length-drop item.read all in
    let within : item.read < length all = omega (arith, long, left) in
    let (here, at) = element_at all item.read within in
    let both : here ∷ unread_of g (item_after item) ≡ symbol ∷ symbols = sym (unread_at g item here at) ∙ is in
    let same : here ≡ symbol = cc in
    (at ∙ ap Some same, cc)

-- one step more at the beginning
pub led_first : {A : Type 0} {Leads : A → A → Type 0} {a b c : A} → Leads a b → Reachable (λ n. n ≡ b) Leads c → Reachable (λ n. n ≡ a) Leads c
led_first {Leads = Leads} {a = a} leads (seed {a = c} same) = led (seed refl) (subst (Leads a) (sym same) leads)
led_first leads (led h k) = led (led_first leads h) k

module _ (g : Grammar) (Used : ℕ → Type 0) (x : Automaton) where
  -- the token is reached from the node
  abbrev pub Reaches : Node → ℕ → Type 0
  Reaches n t = Reachable (λ m. m ≡ n) (LeadsTo g Used x) (token t)

  abbrev P : ℕ → List Sym → Type 0
  P = HasUsed g Used

  abbrev ReachesFirst : ℕ → ℕ → Type 0
  ReachesFirst r t = Reaches (begun r) t

  -- the tokens that what isn't read of an item begins with are reached
  rest_reaches : (symbols : List Sym) (item : Item) → Used item.production → unread_of g item ≡ symbols → (t : ℕ) → Begins (Nullable P) ReachesFirst symbols t → Reaches (graph.rest item) t
  rest_reaches [] item used is t h = absurd h
  rest_reaches (Token u ∷ symbols) item used is t h = led_first (graph.shows item used (Token u) (unread_next g item (Token u) symbols is).0) (seed (ap token (sym h)))
  rest_reaches (Rule r ∷ symbols) item used is t (inl h) = led_first (graph.shows item used (Rule r) (unread_next g item (Rule r) symbols is).0) h
  rest_reaches (Rule r ∷ symbols) item used is t (inr h) =
      let (at, later) = unread_next g item (Rule r) symbols is in
      led_first (graph.skips item used (Rule r) at h.0) (rest_reaches symbols (item_after item) used later t h.1)

  -- what rules reach is closed, so it is all that they begin with
  begun_reaches : (r : ℕ) (symbols : List Sym) → P r symbols → (t : ℕ) → Begins (Nullable P) ReachesFirst symbols t → ReachesFirst r t
  begun_reaches r symbols has t h = subst (λ m. ReachesFirst m t) has.owner (led_first (graph.begins has.index has.used) (rest_reaches symbols (item_at has.index 0) has.used has.is t h))

  reached_closed : IsClosed P (Nullable P) ReachesFirst
  reached_closed r symbols has = record { empty = (derived_closed P r symbols has).empty; first = begun_reaches r symbols has }

  pub first_reached : (item : Item) → Used item.production → (t : ℕ) (back : List Sym) → Derives P (unread_of g item) (Token t ∷ back) → Reaches (graph.rest item) t
  first_reached item used t back d = rest_reaches (unread_of g item) item used refl t (begins_derived P (Nullable P) ReachesFirst reached_closed t d refl)

-- what comes after the symbol at the end of a list
rest_at : (read rest : List Sym) (x : Sym) → drop (length read + 1) (read ++ x ∷ rest) ≡ rest
rest_at read rest x = ap (drop (length read + 1)) (sym (append_assoc read (x ∷ []) rest)) ∙ drop_at (read ++ x ∷ []) rest (length read + 1) (length_push read x)

module _ (g : Grammar) (grammar : IsGrammar g) (Used : ℕ → Type 0) (x : Automaton) (are : AreStates g Used x.states) (gotos : AreGotos g Used x) where
  abbrev state_at : ℕ → List Item
  state_at q = get_or x.states q []

  abbrev symbols : ℕ → List Sym
  symbols p = (nth_production g p).symbols

  node_read : (q p i : ℕ) → node_at g q (item_at p (i + 1)) ≡ graph.read q (item_at p (i + 1))
  node_read q p i = ap (λ b. cond b (next q (nth_production g p).rule) (graph.read q (item_at p (i + 1)))) (ne_eqb (i + 1) 0 (λ e. omega (arith, e)))

  -- states of one prefix are the same
  state_same : (prefix : List Sym) (q r : ℕ) → q < length x.states → r < length x.states → IsStateOf g Used prefix (state_at q) → IsStateOf g Used prefix (state_at r) → q ≡ r
  state_same prefix q r within inside one two = are.distinct q r within inside (λ item. ((λ h. (two item).1 ((one item).0 h)), (λ h. (one item).1 ((two item).0 h))))

  -- the symbol leads from a state of the prefix to that of the prefix with the symbol
  goto_is : (prefix : List Sym) (symbol : Sym) (q r : ℕ) → q < length x.states → r < length x.states
      → IsStateOf g Used prefix (state_at q) → IsStateOf g Used (prefix ++ symbol ∷ []) (state_at r)
      → IsViable g Used (prefix ++ symbol ∷ []) → (o : Option ℕ) → IsGoto g Used x.states q symbol o → o ≡ Some r
  goto_is prefix symbol q r within inside state onwards viable None none = absurd (none prefix state viable)
  goto_is prefix symbol q r within inside state onwards viable (Some s) (there, leads) = ap Some (state_same (prefix ++ symbol ∷ []) s r there inside (leads prefix state) onwards)

  -- the items of a production while its symbols are read, from where its rule may come on
  module _ (before after : List Sym) (p : ℕ) (used : Used p) (spine : Spine g Used before (nth_production g p).rule after) where
    valid_at : (i : ℕ) → i ≤ length (symbols p) → IsValid g Used (before ++ take i (symbols p)) (item_at p i)
    valid_at i most = record { before = before; after = after; spine = spine; used = used; read = most; is = refl }

    -- the item before its last symbol was read, in a state of a prefix with a symbol less
    record ReadBack (i : ℕ) (t : ℕ) : Type 0 where
      state : ℕ
      within : state < length x.states
      is : IsStateOf g Used (before ++ take i (symbols p)) (state_at state)
      reaches : Reaches g Used x (node_at g state (item_at p i)) t

    back_reaches : (t i : ℕ) (symbol : Sym) → HasNext g (item_at p i) symbol → i + 1 ≤ length (symbols p) → (q : ℕ) → q < length x.states
        → IsStateOf g Used (before ++ take (i + 1) (symbols p)) (state_at q) → ReadBack i t → Reaches g Used x (node_at g q (item_at p (i + 1))) t
    back_reaches t i symbol at most q within state b =
        let more : before ++ take (i + 1) (symbols p) ≡ (before ++ take i (symbols p)) ++ symbol ∷ [] = sym (more_read g Used before symbol p i at) in
        let viable : IsViable g Used (before ++ take (i + 1) (symbols p)) = record { item = item_at p (i + 1); is = valid_at (i + 1) most } in
        let goes = goto_is (before ++ take i (symbols p)) symbol b.state q b.within within b.is (subst (λ l. IsStateOf g Used l (state_at q)) more state)
        (subst (IsViable g Used) more viable) (goto_of x b.state symbol) (gotos b.state b.within symbol (next_symbol g grammar (item_at p i) symbol at)) in
        subst (λ n. Reaches g Used x n t) (sym (node_read q p i))
        (led_first (graph.back b.state b.within (item_at p i) ((b.is (item_at p i)).1 (valid_at i (omega (arith, most)))) symbol at q goes) b.reaches)

    abbrev OpenedReaches : ℕ → Type 0
    OpenedReaches t = (q : ℕ) → q < length x.states → IsStateOf g Used before (state_at q) → Reaches g Used x (next q (nth_production g p).rule) t

    -- whatever is reached from where the production's rule is next is reached from its items
    item_reaches : (t : ℕ) → OpenedReaches t → (i : ℕ) → i ≤ length (symbols p) → (q : ℕ) → q < length x.states → IsStateOf g Used (before ++ take i (symbols p)) (state_at q)
        → Reaches g Used x (node_at g q (item_at p i)) t
    item_reaches t opened zero most q within state = opened q within (subst (λ l. IsStateOf g Used l (state_at q)) (append-nil before) state)
    item_reaches t opened (suc i) most q within state =
        let fewer : i ≤ length (symbols p) = omega (arith, most) in
        let (symbol, at) = element_at (symbols p) i (omega (arith, most)) in
        let (r, inside, is) = are.each (before ++ take i (symbols p)) (record { item = item_at p i; is = valid_at i fewer }) in
        subst (λ n. Reaches g Used x (node_at g q (item_at p n)) t) (add-one i)
        (back_reaches t i symbol at (omega (arith, most)) q within (subst (λ n. IsStateOf g Used (before ++ take n (symbols p)) (state_at q)) (sym (add-one i)) state)
        (record { state = r; within = inside; is = is; reaches = item_reaches t opened i fewer r inside is }))

  -- nothing but the end token comes after the start rule itself
  none_reaches : (t : ℕ) → MayBegin g Used [] t → (q : ℕ) → q < length x.states → IsStateOf g Used [] (state_at q) → Reaches g Used x (next q 0) t
  none_reaches t (begins rest d) q within state = absurd (begins_none g Used t rest d)
  none_reaches t (ends d is) q within state =
      let some : 0 < length x.states = omega (arith, within) in
      let same : q ≡ 0 = state_same [] q 0 within some state (are.first some) in
      subst (λ n. Reaches g Used x (next n 0) t) (sym same) (led (seed refl) (graph.finish some t is))

  -- the rule that is next in an item, by what comes after it in its production, and after the item
  next_reaches : (q : ℕ) → q < length x.states → (item : Item) → Contains (state_at q) item → Used item.production → (rule : ℕ) → HasNext g item (Rule rule)
      → (back after : List Sym) → unread_of g (item_after item) ≡ back
      → (t : ℕ) → BeginsIn g Used back after t → (MayBegin g Used after t → Reaches g Used x (node_at g q item) t) → Reaches g Used x (next q rule) t
  next_reaches q within item among used rule at back after is t (first more d) later =
      led_first (graph.comes q within item among rule at)
      (first_reached g Used x (item_after item) used t more (subst (λ l. Derives (HasUsed g Used) l (Token t ∷ more)) (sym is) d))
  next_reaches q within item among used rule at back after is t (second nullable comes) later =
      led_first (graph.ends q within item among rule at (subst (λ l. Derives (HasUsed g Used) l []) (sym is) nullable)) (later comes)

  -- whatever may come after the rule of a spine is reached from where the rule is next
  spine_reaches : {before after : List Sym} {rule : ℕ} → Spine g Used before rule after → (t : ℕ) → MayBegin g Used after t → (q : ℕ) → q < length x.states
      → IsStateOf g Used before (state_at q) → Reaches g Used x (next q rule) t
  spine_reaches start t comes q within state = none_reaches t comes q within state
  spine_reaches (inner {before} {after} spine p used own read rest rule split) t comes q within state =
      let i = length read in
      let mine : Spine g Used before (nth_production g p).rule after = subst (λ r. Spine g Used before r after) (sym own) spine in
      let most : i ≤ length (symbols p) = let long = ap length split in let parts = length-append read (Rule rule ∷ rest) in omega (arith, long, parts) in
      let front : take i (symbols p) ≡ read = ap (take i) split ∙ take_at read (Rule rule ∷ rest) i refl in
      let here : IsStateOf g Used (before ++ take i (symbols p)) (state_at q) = subst (λ l. IsStateOf g Used (before ++ l) (state_at q)) (sym front) state in
      next_reaches q within (item_at p i) ((here (item_at p i)).1 (valid_at before after p used mine i most)) used rule
      (ap (λ l. slice_get l i) split ∙ slice_at read rest (Rule rule)) rest after (ap (drop (i + 1)) split ∙ rest_at read rest (Rule rule)) t (begins_in g Used rest after t comes)
      (λ comes. item_reaches before after p used mine t
      (λ r inside opened. subst (λ r'. Reaches g Used x (next r r') t) (sym own) (spine_reaches spine t comes r inside opened)) i most q within here)

  -- the lookaheads of an item are reached from it
  pub lookahead_reaches : (q : ℕ) → q < length x.states → (item : Item) → (t : ℕ) → IsLookahead g Used (state_at q) item t → Reaches g Used x (node_at g q item) t
  lookahead_reaches q within item t l = item_reaches l.before l.after item.production l.used l.spine t (spine_reaches l.spine t l.comes) item.read l.read q within
      (subst (λ p. IsStateOf g Used p (state_at q)) l.is l.state)
