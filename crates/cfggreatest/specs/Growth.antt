-- How the costs of a rule's sentences grow from those of another rule.
use Rattle.std.specs.Prelude.{ℕ, ◌<◌, List, [], ◌∷◌, ◌++◌, Bool, IsTrue, map}
use Rattle.derivation.specs.Grammar.{Sym, Rule, Token}
use Rattle.derivation.specs.Derivation.{Derives}
use Rattle.derivation.specs.Sentence.{cost_of}

-- r derives a list that contains x, beside symbols that derive tokens which cost something
pub record GrowsFrom (P : ℕ → List Sym → Type 0) (cost : ℕ → ℕ) (r x : ℕ) : Type 0 where
  pub before : List Sym
  pub after : List Sym
  pub word : List ℕ
  pub leads : Derives P (Rule r ∷ []) (before ++ (Rule x ∷ after))
  pub gives : Derives P (before ++ after) (map Token word)
  pub grows : 0 < cost_of cost word

-- r has a sentence, and grows from a rule of the set
pub record GrowsFromSet (P : ℕ → List Sym → Type 0) (cost : ℕ → ℕ) (set : ℕ → Bool) (r : ℕ) : Type 0 where
  pub sentence : List ℕ
  pub derived : Derives P (Rule r ∷ []) (map Token sentence)
  pub rule : ℕ
  pub among : IsTrue (set rule)
  pub from : GrowsFrom P cost r rule
