-- Which states a state leads to, by its items.
use Rattle.std.proofs.Common.{◌≡◌, ℕ, ◌<◌, List, Some, Contains, length, subst, arith}
use Rattle.search.specs.Reachable.{FoundBy, Reachable, Reaches, SearchState, led, seed}
use Rattle.search.proofs.Reaching.{reaches_as}
use Rattle.cfgrammar.specs.Associativity.{Associativity}
use Rattle.cfgrammar.specs.Grammar.{IsGrammar, IsSymbolOf, Sym, Rule, Token}
use Rattle.cfgrammar.specs.Numbered.{Numbered, core}
use Rattle.lr_states.specs.Automaton.{IsGoto, goto_of}
use Rattle.lr_states.specs.Viable.{HasNext, IsUsed, item_at}
use Rattle.lr_states.specs.declared.Item.{Item}
use Rattle.lr_states.proofs.Closed.{next_symbol}
use Rattle.lr_states.proofs.Spines.{viable_read}
use Rattle.lr_states.specs.Lookaheads.{LookaheadTables}
use Rattle.lr_conflicts.specs.Conflicts.{Goes, IsEntered, items_of, next, rule, token}
use Rattle.lr_conflicts.specs.Inner.Choices.{AreTables, GoesBy, IsPassed}

module _ (g : Numbered) (levels : List Associativity) (x : LookaheadTables) (are : AreTables g x) where
  abbrev used : ℕ → Type 0
  used = IsUsed (core g)

  -- a symbol that leads to a state is next in an item
  next_by : (q : ℕ) → q < length x.automaton.states → (symbol : Sym) → IsSymbolOf (core g) symbol → (r : ℕ) → goto_of x.automaton q symbol ≡ Some r
      → (item : Item) × Contains (items_of x.automaton q) item × HasNext (core g) item symbol
  next_by q within symbol symbol_of r goes =
      let (inside, leads) = subst (IsGoto (core g) used x.automaton.states q symbol) goes (are.gotos q within symbol symbol_of) in
      let (prefix, viable, state) = are.states.only q within in
      let (other, other_viable, other_state) = are.states.only r inside in
      let among = (other_state other_viable.item).1 other_viable.is in
      let valid = (leads prefix state other_viable.item).0 among in
      let read = viable_read (core g) used prefix symbol (record { item = other_viable.item; is = valid }) in
      (item_at read.production read.read, (state (item_at read.production read.read)).1 read.valid, read.next)

  module _ (grammar : IsGrammar (core g)) (q : ℕ) (within : q < length x.automaton.states) where
    goes_by : (r : ℕ) → FoundBy (GoesBy g levels x.automaton q) (items_of x.automaton q) r → Goes g levels x.automaton q r
    goes_by r h = by h.finds.symbol h.finds.next h.finds.passed h.finds.goes
      where
        by : (symbol : Sym) → HasNext (core g) h.thing symbol → IsPassed g levels (items_of x.automaton q) symbol → goto_of x.automaton q symbol ≡ Some r → Goes g levels x.automaton q r
        by (Rule s) at passed goes = rule s (next_symbol (core g) grammar h.thing (Rule s) at) goes
        by (Token t) at passed goes = token t (next_symbol (core g) grammar h.thing (Token t) at) goes (record { shift = next h.thing h.among at; left = passed })

    by_goes : (r : ℕ) → Goes g levels x.automaton q r → FoundBy (GoesBy g levels x.automaton q) (items_of x.automaton q) r
    by_goes r (rule s symbol goes) =
        let (item, among, at) = next_by q within (Rule s) symbol r goes in
        record { thing = item; among = among; finds = record { symbol = Rule s; next = at; passed = tt; goes = goes } }
    by_goes r (token t symbol goes shifted) =
        let (item, among, at) = next_by q within (Token t) symbol r goes in
        record { thing = item; among = among; finds = record { symbol = Token t; next = at; passed = shifted.left; goes = goes } }

    pub goes_found : (old new : SearchState) → Reaches (FoundBy (GoesBy g levels x.automaton q) (items_of x.automaton q)) old new → Reaches (Goes g levels x.automaton q) old new
    goes_found old new found = reaches_as _ _ old new goes_by by_goes found

  -- what is reached from the first state, if there is one, is entered
  pub entered_is : (q : ℕ) → Reachable (λ n. (n ≡ 0) × (0 < length x.automaton.states)) (Goes g levels x.automaton) q → q < length x.automaton.states → IsEntered g levels x.automaton q
  entered_is q reached within = record { within = within; reachable = first reached }
    where
      first : {n : ℕ} → Reachable (λ n. (n ≡ 0) × (0 < length x.automaton.states)) (Goes g levels x.automaton) n → Reachable (λ n. n ≡ 0) (Goes g levels x.automaton) n
      first (seed h) = seed h.0
      first (led h k) = led (first h) k

  pub is_entered : (q : ℕ) → IsEntered g levels x.automaton q → Reachable (λ n. (n ≡ 0) × (0 < length x.automaton.states)) (Goes g levels x.automaton) q
  is_entered q h = some h.reachable
    where
      some : {n : ℕ} → Reachable (λ n. n ≡ 0) (Goes g levels x.automaton) n → Reachable (λ n. (n ≡ 0) × (0 < length x.automaton.states)) (Goes g levels x.automaton) n
      some (seed e) = seed (e, (let there = h.within in omega (arith, there)))
      some (led k l) = led (some k) l
