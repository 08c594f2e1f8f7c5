-- What the code finds of a state, and of a token in it.
use Rattle.std.specs.Prelude.{◌≡◌, ◌↔◌, ◌⊎◌, ◌<◌, ◌≤◌, ℕ, false, List, Option, Some, Contains, IsTrue, MatchOption, length, map, slice_index_or}
use Rattle.std.specs.List.Sorted.{IsStrictlyIncreasing}
use Rattle.cfgrammar.specs.Associativity.{Associativity}
use Rattle.cfgrammar.specs.Grammar.{Sym, Rule, Token}
use Rattle.cfgrammar.specs.Numbered.{Numbered, core}
use Rattle.lr_states.specs.Automaton.{AreGotos, Automaton, goto_of}
use Rattle.lr_states.specs.Viable.{AreStates, HasNext, IsUsed}
use Rattle.lr_states.specs.declared.Item.{Item}
use Rattle.lr_states.specs.Lookaheads.{AreLookaheads, LookaheadTables, tokens_of}
use Rattle.lr_conflicts.specs.Conflicts.{CanReduce, CanShift, TakesShift, items_of, read_item}
use Rattle.lr_conflicts.specs.Precedences.{production_precedence, settled, token_precedence}
use Rattle.lr_conflicts.specs.declared.listed.Turn.{Turn}
use Rattle.lr_conflicts.specs.declared.parser.Parser.{Parser}
use Rattle.lr_conflicts.specs.declared.parser.Reduction.{Reduction}
use Rattle.lr_conflicts.specs.declared.parser.State.{State}
use Rattle.lr_conflicts.specs.declared.precedences.Settled.{Settled}
use Rattle.lr_conflicts.specs.declared.precedences.Settled.TheVariants.{Shift, Reduce, Neither}

-- states, gotos and lookaheads are those of the grammar
pub record AreTables (g : Numbered) (x : LookaheadTables) : Type 0 where
  pub states : AreStates (core g) (IsUsed (core g)) x.automaton.states
  pub gotos : AreGotos (core g) (IsUsed (core g)) x.automaton
  pub lookaheads : AreLookaheads (core g) (IsUsed (core g)) x

-- the token can be shifted, and no production before this one takes that away
abbrev pub ShiftsBefore : Turn → ℕ → Type 0
ShiftsBefore turn p = IsTrue turn.can_shift × MatchOption turn.taker (Unit {0}) (λ taker. p ≤ taker)

module _ (g : Numbered) where
  -- by the item its production can be reduced
  pub record IsReducible (item : Item) : Type 0 where
    pub ours : item.production ≡ g.start_production → ⊥
    pub read : item ≡ read_item g item.production

  -- its production's tokens in the state, and its precedence
  pub record IsReductionAt (x : LookaheadTables) (q : ℕ) (r : Reduction) : Type 0 where
    pub tokens : r.tokens.now ≡ tokens_of x q (read_item g r.production)
    pub precedence : r.precedence ≡ production_precedence g r.production

module _ (g : Numbered) (levels : List Associativity) where
  -- this is what precedence says
  abbrev pub Says : ℕ → Reduction → Settled → Type 0
  Says t r verdict = settled levels (token_precedence g t) r.precedence ≡ Some verdict

  -- the token may come after its production, for whose sake precedence takes the shift away
  abbrev pub Takes : ℕ → Reduction → Type 0
  Takes t r = IsTrue (slice_index_or r.tokens.now t false) × (Says t r Reduce ⊎ Says t r Neither)

  -- precedence takes its production away from that shift
  abbrev pub Loses : Turn → Reduction → Type 0
  Loses turn r = ShiftsBefore turn r.production × (Says turn.token r Shift ⊎ Says turn.token r Neither)

  -- the token may come after its production, which precedence doesn't take away
  abbrev pub IsKept : Turn → Reduction → Type 0
  IsKept turn r = IsTrue (slice_index_or r.tokens.now turn.token false) × (Loses turn r → ⊥)

  module _ (items : List Item) where
    -- it is known at which tokens its production can be reduced
    pub record IsReductionIn (r : Reduction) : Type 0 where
      pub comes : (t : ℕ) → t < length g.tokens → IsTrue (slice_index_or r.tokens.now t false) ↔ CanReduce g levels items t r.production
      pub precedence : r.precedence ≡ production_precedence g r.production

    -- the productions that can be reduced, in ascending order
    pub record AreReductions (rs : List Reduction) : Type 0 where
      pub each : (r : Reduction) → Contains rs r → IsReductionIn r
      pub all : (t p : ℕ) → CanReduce g levels items t p → Contains (map (λ (r : Reduction). r.production) rs) p
      pub ascending : IsStrictlyIncreasing (map (λ (r : Reduction). r.production) rs)

    -- the first production for whose sake precedence takes the shift away
    pub record IsFirstTaker (t p : ℕ) : Type 0 where
      pub takes : TakesShift g levels items t p
      pub first : (other : ℕ) → other < p → TakesShift g levels items t other → ⊥

    abbrev pub IsTaker : ℕ → Option ℕ → Type 0
    IsTaker t taker = MatchOption taker ((p : ℕ) → TakesShift g levels items t p → ⊥) (IsFirstTaker t)

    -- what becomes of a token, if it can be shifted
    pub record IsTurn (turn : Turn) : Type 0 where
      pub within : turn.token < length g.tokens
      pub can : IsTrue turn.can_shift ↔ CanShift g levels items turn.token
      pub taker : IsTrue turn.can_shift → IsTaker turn.token turn.taker

    -- the symbol is a rule, or a token whose shift isn't taken away
    abbrev pub IsPassed : Sym → Type 0
    IsPassed (Rule s) = Unit {0}
    IsPassed (Token t) = (p : ℕ) → TakesShift g levels items t p → ⊥

  -- by this item of state q, whose next symbol is passed
  pub record GoesBy (x : Automaton) (q : ℕ) (item : Item) (r : ℕ) : Type 0 where
    pub symbol : Sym
    pub next : HasNext (core g) item symbol
    pub passed : IsPassed (items_of x q) symbol
    pub goes : goto_of x q symbol ≡ Some r

module _ (x : Parser) where
  abbrev pub items_in : ℕ → List Item
  items_in q = items_of x.lookaheads.now.automaton q

  pub record IsState (s : State) : Type 0 where
    pub within : s.number < length x.lookaheads.now.automaton.states
    pub reductions : AreReductions x.grammar.now x.levels.now (items_in s.number) s.reductions.items
