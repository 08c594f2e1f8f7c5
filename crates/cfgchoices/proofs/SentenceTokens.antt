-- The tokens of a sentence are those of productions.
use Rattle.std.proofs.Common.{ℕ, ◌+◌, ◌<◌, List, [], ◌∷◌, All, subst, sym}
use Rattle.std.proofs.lemmas.List.Elements.{All-nil, All-cons, All-head, All-tail, All-contains, All-append}
use Rattle.derivation.specs.Grammar.{Sym, Rule, Token, Grammar, IsGrammar, IsSymbolOf, HasProduction}
use Rattle.derivation.specs.Sentence.{Sentence}
use Rattle.derivation.specs.Tree.{Yields, empty, token, opened}
use Rattle.derivation.proofs.Trees.{trees_from_derivation}

-- what is true of the symbols of productions, and so of the tokens among them, is true of the leaves
module _ (P : ℕ → List Sym → Type 0) (Is : Sym → Type 0) (holds : (r : ℕ) (symbols : List Sym) → P r symbols → All Is symbols) where
  pub leaves_are : {a : List Sym} {w : List ℕ} → Yields P a w → All Is a → All (λ t. Is (Token t)) w
  leaves_are empty all = All-nil (λ t. Is (Token t))
  leaves_are (token {t = t} {a = a} {w = w} h) all = All-cons (λ t. Is (Token t)) t w (All-head Is (Token t) a all) (leaves_are h (All-tail Is (Token t) a all))
  leaves_are (opened {r = r} {symbols = symbols} {a = a} {u = u} {w = w} has h k e) all =
      subst (All (λ t. Is (Token t))) (sym e)
      (All-append (λ t. Is (Token t)) u w (leaves_are h (holds r symbols has)) (leaves_are k (All-tail Is (Rule r) a all)))

-- no token of a sentence is the end token
pub sentence_tokens : (g : Grammar) → IsGrammar g → (r : ℕ) (w : List ℕ) → r < g.rules → Sentence (HasProduction g) r w → All (λ t. t + 1 < g.tokens) w
sentence_tokens g grammar r w within s =
    leaves_are (HasProduction g) (IsSymbolOf g)
    (λ q symbols has. All-contains (λ p. All (IsSymbolOf g) p.symbols) g.productions (record { rule = q; symbols = symbols }) grammar.symbols has)
    (trees_from_derivation (HasProduction g) (Rule r ∷ []) w s)
    (All-cons (IsSymbolOf g) (Rule r) [] within (All-nil (IsSymbolOf g)))
