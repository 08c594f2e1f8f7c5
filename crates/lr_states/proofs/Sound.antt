-- What the nodes of the graph mean, and that whatever is reached from a node is among its tokens.
use Rattle.std.proofs.Common.{◌≡◌, ◌==◌, ℕ, ◌+◌, Bool, true, false, cond, List, [], ◌∷◌, ◌++◌, Contains, append-nil, get_or, take, refl, sym, ap, subst, ◌∙◌, arith}
use Rattle.std.proofs.lemmas.Bool.Decides.{Decides-eqb}
use Rattle.std.proofs.lemmas.List.{drop_more}
use Rattle.std.proofs.lemmas.Option.{get_or_from_slice_get, slice_get_within}
use Rattle.search.specs.Reachable.{Reachable, led, seed}
use Rattle.cfgrammar.specs.Grammar.{Grammar, IsGrammar, Sym, Rule, Token}
use Rattle.cfgrammar.specs.First.{First}
use Rattle.cfgrammar.specs.Derivation.{Derives, none}
use Rattle.derivation.proofs.Concatenation.{derives_production, derives_right, derives_trans}
use Rattle.cfgrammar.specs.Openings.{nth_production}
use Rattle.lr_states.specs.declared.Item.{Item}
use Rattle.lr_states.specs.Viable.{AreStates, HasNext, IsStateOf, Spine, start}
use Rattle.lr_states.specs.Automaton.{AreGotos, Automaton, IsGoto}
use Rattle.lr_states.proofs.Spines.{more_read, spine_next, within_at}
use Rattle.lr_states.proofs.Closed.{next_symbol}
use Rattle.lr_states.specs.Lookaheads.{HasUsed, IsLookahead, MayBegin, begins, ends}
use Rattle.lr_states.specs.Inner.Graph.{LeadsTo, Node, begun, item_after, next, node_at, read, rest, shown, token, unread_of}
use Rattle.lr_states.specs.Inner.Graph as graph
use Rattle.lr_states.proofs.Firsts.{SymbolBegins, nullable_begins, shows_derives}

-- after some prefix of the state the rule may come, and right after the rule the token
pub record ComesAfter (g : Grammar) (Used : ℕ → Type 0) (items : List Item) (rule t : ℕ) : Type 0 where
  pub prefix : List Sym
  pub state : IsStateOf g Used prefix items
  pub after : List Sym
  pub spine : Spine g Used prefix rule after
  pub comes : MayBegin g Used after t

-- what isn't read of an item begins with its next symbol
pub unread_at : (g : Grammar) (item : Item) (symbol : Sym) → HasNext g item symbol → unread_of g item ≡ symbol ∷ unread_of g (item_after item)
unread_at g item symbol at =
    let symbols = (nth_production g item.production).symbols in
    drop_more symbols item.read symbol (slice_get_within symbols item.read symbol at)
    ∙ ap (λ y. y ∷ unread_of g (item_after item)) (get_or_from_slice_get symbols item.read symbol symbol at)

-- the token is one of those that the node asks for
abbrev pub Means : Grammar → (ℕ → Type 0) → Automaton → Node → ℕ → Type 0
Means g Used x (token u) t = u ≡ t
Means g Used x (begun r) t = First (HasUsed g Used) r t
Means g Used x (rest item) t = (back : List Sym) × Derives (HasUsed g Used) (unread_of g item) (Token t ∷ back)
Means g Used x (read q item) t = IsLookahead g Used (get_or x.states q []) item t
Means g Used x (next q rule) t = ComesAfter g Used (get_or x.states q []) rule t

module _ (g : Grammar) (grammar : IsGrammar g) (Used : ℕ → Type 0) (x : Automaton) (are : AreStates g Used x.states) (gotos : AreGotos g Used x) where
  abbrev state_at : ℕ → List Item
  state_at q = get_or x.states q []

  symbol_means : (symbol : Sym) (t : ℕ) → Means g Used x (shown symbol) t → SymbolBegins (First (HasUsed g Used)) symbol t
  symbol_means (Rule r) t h = h
  symbol_means (Token u) t h = h

  -- what may come after the rule of an item of which nothing is read may come after the item
  item_means : (q : ℕ) (item : Item) → Contains (state_at q) item → (t : ℕ) (unread : Bool) → (item.read == 0) ≡ unread
      → Means g Used x (cond unread (next q (nth_production g item.production).rule) (read q item)) t → IsLookahead g Used (state_at q) item t
  item_means q item h t false is m = m
  item_means q item h t true is m =
      let unread : item.read ≡ 0 = (Decides-eqb item.read 0).0 is in
      let v = (m.state item).0 h in
      record {
        prefix = m.prefix;
        state = m.state;
        before = m.prefix;
        after = m.after;
        spine = m.spine;
        used = v.used;
        read = v.read;
        is = sym (ap (λ n. m.prefix ++ take n (nth_production g item.production).symbols) unread ∙ append-nil m.prefix);
        comes = m.comes;
      }

  pub node_means : (q : ℕ) (item : Item) → Contains (state_at q) item → (t : ℕ) → Means g Used x (node_at g q item) t → IsLookahead g Used (state_at q) item t
  node_means q item h t m = item_means q item h t (item.read == 0) refl m

  -- a node has the tokens of the nodes that it leads to
  step_means : {a b : Node} → LeadsTo g Used x a b → (t : ℕ) → Means g Used x b t → Means g Used x a t
  step_means (graph.begins p used) t m =
      let production = nth_production g p in (
        m.0,
        derives_trans (HasUsed g Used) (derives_production (HasUsed g Used) production.rule production.symbols (record { index = p; used = used; owner = refl; is = refl })) m.1,
      )
  step_means (graph.shows item used symbol at) t m =
      shows_derives g Used (unread_of g item) symbol t (record { before = []; after = unread_of g (item_after item); nullable = none; is = unread_at g item symbol at })
      (symbol_means symbol t m)
  step_means (graph.skips item used symbol at nullable) t m = (
    m.0,
    subst (λ l. Derives (HasUsed g Used) l (Token t ∷ m.0)) (sym (unread_at g item symbol at))
        (derives_trans (HasUsed g Used) (derives_right (HasUsed g Used) (unread_of g (item_after item)) nullable) m.1),
  )
  step_means (graph.comes q within item h rule at) t m =
      let (prefix, viable, state) = are.only q within in
      let v = (state item).0 h in
      record {
        prefix = prefix;
        state = state;
        after = unread_of g (item_after item) ++ v.after;
        spine = spine_next g Used prefix v.before v.after item rule v.spine v.used v.is at;
        comes = begins (m.0 ++ v.after) (derives_right (HasUsed g Used) v.after m.1);
      }
  step_means (graph.ends q within item h rule at nullable) t m =
      let l = node_means q item h t m in
      record {
        prefix = l.prefix;
        state = l.state;
        after = unread_of g (item_after item) ++ l.after;
        spine = spine_next g Used l.prefix l.before l.after item rule l.spine l.used l.is at;
        comes = nullable_begins g Used (unread_of g (item_after item)) l.after t nullable l.comes;
      }
  step_means (graph.back q within item h symbol at r goes) t m =
      let l = node_means q item h t m in
      let inside = within_at (nth_production g item.production).symbols item.read symbol at in
      let leads = subst (IsGoto g Used x.states q symbol) goes (gotos q within symbol (next_symbol g grammar item symbol at)) in
      record {
        prefix = l.prefix ++ symbol ∷ [];
        state = leads.1 l.prefix l.state;
        before = l.before;
        after = l.after;
        spine = l.spine;
        used = l.used;
        read = omega (arith, inside);
        is = ap (λ p. p ++ symbol ∷ []) l.is ∙ more_read g Used l.before symbol item.production item.read at;
        comes = l.comes;
      }
  step_means (graph.finish some u is) t m = record {
    prefix = [];
    state = are.first some;
    after = [];
    spine = start;
    comes = ends none (subst (λ v. v + 1 ≡ g.tokens) m is);
  }

  -- and of all that are reached from it
  pub reached_means : {a b : Node} → Reachable (λ n. n ≡ a) (LeadsTo g Used x) b → (t : ℕ) → Means g Used x b t → Means g Used x a t
  reached_means (seed same) t m = subst (λ n. Means g Used x n t) same m
  reached_means (led h k) t m = reached_means h t (step_means k t m)
