-- The least and the greatest cost of a rule's sentences. The least is that of Knuth, A generalization of Dijkstra's algorithm (1977), for
-- addition: a production costs the sum of its symbols.
use Rattle.std.specs.Prelude.{ℕ, ◌<◌, ◌≤◌, List}
use Rattle.derivation.specs.Grammar.{Sym}
use Rattle.derivation.specs.Sentence.{Sentence, cost_of, HasSentenceOf}

-- some sentence costs c, and none costs less
abbrev pub Least : (ℕ → List Sym → Type 0) → (ℕ → ℕ) → ℕ → ℕ → Type 0
Least P cost r c = HasSentenceOf P cost r c × ((w : List ℕ) → Sentence P r w → c ≤ cost_of cost w)

-- w is a sentence of the rule, and none costs less
abbrev pub Minimal : (ℕ → List Sym → Type 0) → (ℕ → ℕ) → ℕ → List ℕ → Type 0
Minimal P cost r w = Sentence P r w × ((v : List ℕ) → Sentence P r v → cost_of cost w ≤ cost_of cost v)

-- some sentence costs c, and none costs more
abbrev pub Greatest : (ℕ → List Sym → Type 0) → (ℕ → ℕ) → ℕ → ℕ → Type 0
Greatest P cost r c = HasSentenceOf P cost r c × ((w : List ℕ) → Sentence P r w → cost_of cost w ≤ c)

-- for every number, some sentence costs more
abbrev pub Unbounded : (ℕ → List Sym → Type 0) → (ℕ → ℕ) → ℕ → Type 0
Unbounded P cost r = (n : ℕ) → (w : List ℕ) × Sentence P r w × (n < cost_of cost w)
