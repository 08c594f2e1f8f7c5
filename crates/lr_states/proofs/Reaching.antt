-- Lookaheads are the tokens that are reached in the graph.
use Rattle.std.proofs.Common.{◌≡◌, ◌↔◌, ℕ, ◌<◌, [], Contains, get_or, length, refl}
use Rattle.search.specs.Reachable.{Reachable}
use Rattle.cfgrammar.specs.Grammar.{Grammar, IsGrammar}
use Rattle.lr_states.specs.declared.Item.{Item}
use Rattle.lr_states.specs.Viable.{AreStates}
use Rattle.lr_states.specs.Automaton.{AreGotos, Automaton}
use Rattle.lr_states.specs.Lookaheads.{IsLookahead}
use Rattle.lr_states.specs.Inner.Graph.{LeadsTo, node_at, token}
use Rattle.lr_states.proofs.Sound.{node_means, reached_means}
use Rattle.lr_states.proofs.Complete.{lookahead_reaches}

pub lookaheads_are_reached : (g : Grammar) → IsGrammar g → (Used : ℕ → Type 0) → (x : Automaton) → AreStates g Used x.states → AreGotos g Used x
    → (q : ℕ) → q < length x.states → (item : Item) → Contains (get_or x.states q []) item → (t : ℕ)
    → Reachable (λ n. n ≡ node_at g q item) (LeadsTo g Used x) (token t) ↔ IsLookahead g Used (get_or x.states q []) item t
lookaheads_are_reached g grammar Used x are gotos q within item among t = (
  (λ h. node_means g grammar Used x are gotos q item among t (reached_means g grammar Used x are gotos h t refl)),
  (λ l. lookahead_reaches g grammar Used x are gotos q within item t l),
)
