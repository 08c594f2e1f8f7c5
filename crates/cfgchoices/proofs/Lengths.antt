-- If each token costs something, a word has at most as many tokens as it costs.
use Rattle.std.proofs.Common.{◌≡◌, ℕ, ◌<◌, ◌≤◌, List, [], ◌∷◌, ◌++◌, length, All, arith}
use Rattle.std.specs.Prelude.{slice_index}
use Rattle.std.proofs.lemmas.List.Elements.{All-nil, All-cons, All-head, All-tail, All-weaker, All-contains, All-get_or}
use Rattle.derivation.specs.Grammar.{Sym, Rule, Token, Grammar, IsGrammar, IsSymbolOf, HasProduction}
use Rattle.derivation.specs.Sentence.{Sentence, cost_of}
use Rattle.derivation.specs.Tree.{Yields}
use Rattle.derivation.proofs.Trees.{trees_from_derivation}
use Rattle.derivation.proofs.Made.{cost_of-token}
use Rattle.lemmas.proofs.Popped.{none_left}
use Rattle.cfgchoices.proofs.SentenceTokens.{leaves_are}

-- a token costs something
abbrev pub IsPaid : (ℕ → ℕ) → Sym → Type 0
IsPaid cost (Rule r) = Unit {0}
IsPaid cost (Token t) = 0 < cost t

abbrev pub ArePositive : (ℕ → ℕ) → List ℕ → Type 0
ArePositive cost w = All (λ t. 0 < cost t) w

positive_length : (cost : ℕ → ℕ) (w : List ℕ) → ArePositive cost w → length w ≤ cost_of cost w
positive_length cost [] all = omega arith
positive_length cost (t ∷ w) all =
    let rest = positive_length cost w (All-tail (λ t. 0 < cost t) t w all) in
    let here = All-head (λ t. 0 < cost t) t w all in
    let both = cost_of-token cost t w in
    omega (arith, rest, here, both)

-- a word that costs nothing is empty
pub positive_empty : (cost : ℕ → ℕ) (w : List ℕ) → ArePositive cost w → cost_of cost w ≤ 0 → w ≡ []
positive_empty cost w all none = let long = positive_length cost w all in none_left w (omega (arith, long, none))

pub positive_back : (cost : ℕ → ℕ) (u w : List ℕ) → ArePositive cost (u ++ w) → ArePositive cost w
positive_back cost [] w all = all
positive_back cost (t ∷ u) w all = positive_back cost u w (All-tail (λ t. 0 < cost t) t (u ++ w) all)

module _ (P : ℕ → List Sym → Type 0) (cost : ℕ → ℕ) (paid : (r : ℕ) (symbols : List Sym) → P r symbols → All (IsPaid cost) symbols) where
  pub tokens_positive : {a : List Sym} {w : List ℕ} → Yields P a w → All (IsPaid cost) a → ArePositive cost w
  tokens_positive tree all = leaves_are P (IsPaid cost) paid tree all

  pub sentence_positive : (r : ℕ) (w : List ℕ) → Sentence P r w → ArePositive cost w
  sentence_positive r w s = tokens_positive (trees_from_derivation P (Rule r ∷ []) w s) (All-cons (IsPaid cost) (Rule r) [] tt (All-nil (IsPaid cost)))

module _ (g : Grammar) (costs : List ℕ) (grammar : IsGrammar g) (tokens : length costs ≡ g.tokens) (positive : All (λ c. 0 < c) costs) where
  one : (s : Sym) → IsSymbolOf g s → IsPaid (slice_index costs) s
  one (Rule q) h = tt
  one (Token t) h = All-get_or (λ c. 0 < c) costs t 0 (omega (arith, h, tokens)) positive

  pub productions_paid : (r : ℕ) (symbols : List Sym) → HasProduction g r symbols → All (IsPaid (slice_index costs)) symbols
  productions_paid r symbols has = All-weaker (IsSymbolOf g) (IsPaid (slice_index costs)) one symbols
      (All-contains (λ p. All (IsSymbolOf g) p.symbols) g.productions (record { rule = r; symbols = symbols }) grammar.symbols has)

pub sentence_length : (g : Grammar) (costs : List ℕ) → IsGrammar g → length costs ≡ g.tokens → All (λ c. 0 < c) costs
    → (r : ℕ) (w : List ℕ) → Sentence (HasProduction g) r w → length w ≤ cost_of (slice_index costs) w
sentence_length g costs grammar tokens positive r w s =
    positive_length (slice_index costs) w (sentence_positive (HasProduction g) (slice_index costs) (productions_paid g costs grammar tokens positive) r w s)
