-- The rules that a search reaches from a rule; a rule is above those that it leads to.
use Rattle.std.proofs.Common.{ℕ, List, [], ◌∷◌, Bool, Contains, sym, subst}
use Rattle.derivation.specs.Grammar.{Sym, Rule, Grammar, HasProduction}
use Rattle.search.specs.Components.{ReachableFrom}
use Rattle.search.specs.Reachable.{Reaches, SearchState, led, seed}
use Rattle.search.proofs.Reaching.{reaches_as, reaches_known}
use Rattle.cfganalysis.specs.ProductiveRules.{AreProductiveRules, AreProductiveSymbols}
use Rattle.cfggreatest.specs.Inner.AtLeast.{AtLeast, HasWord, IsAbove}
use Rattle.cfggreatest.specs.Inner.Edges.{IsAmong, IsEdge}
use Rattle.cfggreatest.proofs.AtLeast.{at_least_rule, sequence_above}
use Rattle.cfggreatest.proofs.Reaching.{words_of}

module _ (productive : List Bool) (symbols : List Sym) where
  pub among_reached : (old new : SearchState) → AreProductiveSymbols productive symbols → Reaches (λ r. Contains symbols (Rule r)) old new → Reaches (IsAmong productive symbols) old new
  among_reached old new all w = reaches_as _ _ old new (λ r h. record { all = all; holds = h }) (λ r h. h.holds) w

  pub none_among : (x : SearchState) → (AreProductiveSymbols productive symbols → ⊥) → Reaches (IsAmong productive symbols) x x
  none_among x unproductive = reaches_known _ x (λ r h. absurd (unproductive h.all))

module _ (g : Grammar) (productive : List Bool) (are : AreProductiveRules g productive) where
  edge_above : (r x : ℕ) → IsEdge g productive r x → IsAbove (HasProduction g) r x
  edge_above r x (symbols, has, h) cost n least = at_least_rule (HasProduction g) cost r symbols n has
      (sequence_above (HasProduction g) symbols x h.holds (words_of g productive are symbols h.all) cost n least)

  pub reached_above : (r x : ℕ) → ReachableFrom (IsEdge g productive) r x → IsAbove (HasProduction g) r x
  reached_above r x (seed e) cost n least = subst (λ q. AtLeast (HasProduction g) cost (Rule q ∷ []) n) e least
  reached_above r x (led {a = q} before edge) cost n least = reached_above r q before cost n (edge_above q x edge cost n least)

  pub reached_word : (r x : ℕ) → ReachableFrom (IsEdge g productive) r x → HasWord (HasProduction g) (Rule r ∷ []) → HasWord (HasProduction g) (Rule x ∷ [])
  reached_word r x (seed e) word = subst (λ q. HasWord (HasProduction g) (Rule q ∷ [])) (sym e) word
  reached_word r x (led before (symbols, has, h)) word = words_of g productive are symbols h.all x h.holds
