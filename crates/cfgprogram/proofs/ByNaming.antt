-- What is made of the errors of a text that names no kind.
use Rattle.std.proofs.Common.{List, Option, None, inl, refl, ◌≡◌, subst, sym}
use Rattle.cfgrammar.specs.Answer.{Found, Unnamed}
use Rattle.cfgrammar.specs.Errors.{GrammarError}
use Rattle.cfgrammar.specs.Numbered.{Numbered}
use Rattle.cfgrammar.specs.Syntax.{Syntax}
use Rattle.cfgprogram.specs.ReadText.{IsMadeOfRead}

module _ {Made : Type 0} (OfErrors : Option Syntax → List GrammarError → Made → Type 0) (OfGrammar : Syntax → Numbered → Made → Type 0) where
  -- what is made of the errors that keep a text from naming a kind
  pub made_unnamed : (found : Found) (errors : List GrammarError) → found ≡ Unnamed errors → (made : Made) → OfErrors None errors made
      → IsMadeOfRead OfErrors OfGrammar found (made, None)
  made_unnamed found errors is made of = subst (λ found. IsMadeOfRead OfErrors OfGrammar found (made, None)) (sym is) (inl (errors, refl, of), refl)
