-- FOLLOW sets: the next tokens at a position of a production, and what is added for a symbol.
use Rattle.std.specs.Prelude.{◌≡◌, ◌↔◌, ◌⊎◌, ⊤, ◌<◌, ◌≤◌, ℕ, Bool, false, List, [], ◌∷◌, length, IsTrue, slice_index_or, Option, None, Some}
use Rattle.derivation.specs.Grammar.{Sym, Grammar, IsSymbolOf}
use Rattle.derivation.specs.FirstSets.{AreNullable, Begins}
use Rattle.cfgtables.specs.NumberedSymbols.{sym_of}
use Rattle.cfgsets.specs.FirstSets.{FitsGrammar, IsAmongFirsts, IsNullableRule}
use Rattle.cfgsets.specs.GrowingFollows.{FollowSets, HasNoMoreFollows, count_follows}
use Rattle.cfgsets.specs.Table.{Table, IsTable, HasBit, Joins}
use Rattle.cfgsets.specs.Waiting.{Waits}
use Rattle.cfgsets.specs.declared.follows.Lookahead.{Lookahead}
use Rattle.cfgsets.specs.declared.follows.Lookahead.TheVariants as lookaheads

-- the table has a row for each rule and a column for each token
pub record FitFollows (g : Grammar) (x : FollowSets) : Type 0 where
  pub firsts : FitsGrammar g x.firsts
  pub follows : IsTable g.rules g.tokens x.follows

-- the first rule's set has all of the second's
abbrev pub Includes : Table → Option (ℕ × ℕ) → Type 0
Includes follows None = ⊤
Includes follows (Some (into, from)) = (t : ℕ) → HasBit follows from t → HasBit follows into t

-- by the FIRST sets, the list may begin with the token
abbrev pub BeginsList : FollowSets → List Sym → ℕ → Type 0
BeginsList x a t = Begins (IsNullableRule x.firsts) (IsAmongFirsts x.firsts) a t

abbrev pub NullableList : FollowSets → List Sym → Type 0
NullableList x a = AreNullable (IsNullableRule x.firsts) a

-- the tokens that follow a symbol in a production of `rule`: FIRST of the rest and, if the rest is nullable, FOLLOW of `rule`
abbrev pub After : FollowSets → ℕ → List Sym → ℕ → Type 0
After x rule rest t = BeginsList x rest t ⊎ (NullableList x rest × HasBit x.follows rule t)

-- the tokens that `gives` has for each rule were added to its FOLLOW set; `changed` says whether a set grew
pub record Puts (gives : ℕ → ℕ → Type 0) (old new : FollowSets) (changed : Bool) : Type 0 where
  pub firsts : new.firsts ≡ old.firsts
  pub joins : Joins gives old.follows new.follows changed

-- the tokens that `gives` has for each rule were added to its FOLLOW set, and each rule whose set grew was queued
pub record PutsAfter (gives : ℕ → ℕ → Type 0) (old new : FollowSets) (waiting waiting' : List Bool) : Type 0 where
  pub firsts : new.firsts ≡ old.firsts
  pub shape : (rows columns : ℕ) → IsTable rows columns old.follows → IsTable rows columns new.follows
  pub bits : (r t : ℕ) → (HasBit new.follows r t ↔ (HasBit old.follows r t ⊎ gives r t))
  pub no_less : count_follows old ≤ count_follows new
  pub rules : length waiting' ≡ length waiting
  pub kept : (r : ℕ) → Waits waiting r → Waits waiting' r
  pub grown : (r : ℕ) → Waits waiting' r → Waits waiting r ⊎ (count_follows old < count_follows new)
  pub more : (r : ℕ) → Waits waiting' r → Waits waiting r ⊎ (HasNoMoreFollows r old new → ⊥)
  pub reported : (r t : ℕ) → HasBit new.follows r t → HasBit old.follows r t ⊎ Waits waiting' r

-- the token is gathered
abbrev pub IsGathered : List Bool → ℕ → Type 0
IsGathered tokens t = IsTrue (slice_index_or tokens t false)

-- the tokens that `gives` has were added to those gathered before
pub record Gathers (gives : ℕ → Type 0) (old new : List Bool) : Type 0 where
  pub long : length new ≡ length old
  pub tokens : (t : ℕ) → (IsGathered new t ↔ (IsGathered old t ⊎ gives t))

-- the next tokens (the lookahead) at a position in a production of `rule`: FOLLOW of `rule`, FIRST of the next symbol, or what was gathered
abbrev pub LookaheadHas : {S : Type 0} → (S → ℕ) → FollowSets → ℕ → List Bool → Lookahead S → ℕ → Type 0
LookaheadHas number x rule tokens lookaheads.End t = HasBit x.follows rule t
LookaheadHas number x rule tokens (lookaheads.Symbol symbol) t = BeginsList x (sym_of number symbol ∷ []) t
LookaheadHas number x rule tokens lookaheads.Gathered t = IsGathered tokens t

-- if the prefix has a symbol, it is a symbol of the grammar
abbrev pub IsLookaheadOf : {S : Type 0} → (S → ℕ) → Grammar → Lookahead S → Type 0
IsLookaheadOf number g lookaheads.End = ⊤
IsLookaheadOf number g (lookaheads.Symbol symbol) = IsSymbolOf g (sym_of number symbol)
IsLookaheadOf number g lookaheads.Gathered = ⊤

abbrev pub IsEnd : {S : Type 0} → Lookahead S → Type 0
IsEnd lookaheads.End = ⊤
IsEnd (lookaheads.Symbol symbol) = ⊥
IsEnd lookaheads.Gathered = ⊥

-- lookahead' and tokens' give the next tokens before symbol s: what s begins with and, if it is nullable, the next tokens after it, which
-- prefix and tokens give
pub record LookaheadBefore {S : Type 0} (number : S → ℕ) (x : FollowSets) (rule : ℕ) (s : Sym) (lookahead : Lookahead S) (tokens : List Bool)
    (lookahead' : Lookahead S) (tokens' : List Bool) : Type 0 where
  pub past : (t : ℕ) → (LookaheadHas number x rule tokens' lookahead' t
      ↔ (BeginsList x (s ∷ []) t ⊎ (NullableList x (s ∷ []) × LookaheadHas number x rule tokens lookahead t)))
  pub begun : IsEnd lookahead' → ⊥
  pub fits : (g : Grammar) → IsSymbolOf g s → IsLookaheadOf number g lookahead'
  pub long : length tokens' ≡ length tokens
