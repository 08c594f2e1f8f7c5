use Rattle.std.proofs.Common.{◌≡◌, ℕ, List, Result, Ok, Err, map, refl, subst, sym}
use Rattle.cfgbase.specs.declared.span.Span.{Span}
use Rattle.cfgkinds.specs.declared.kind.YaccKind.{YaccKind}
use Rattle.cfgerrors.specs.HeaderErrors.{ShownError}
use Rattle.cfgerrors.specs.Errors.{header_error}
use Rattle.cfgsection.specs.Named.{HasOneNaming, Names, Naming}
use Rattle.cfgsection.proofs.NamedLemmas.{one_naming}
use Rattle.cfgyacc.specs.Answer.{Found, IsAnswer, Unnamed}
use Rattle.cfgyacc.specs.GrammarOf.{IsFoundNamed}
use Rattle.cfgyacc.proofs.laws.texts_are_read_as_the_kind_they_name.Goals as goal

-- what a text that names this is found to be
from_naming : (text : List ℕ) (naming : Naming) → Names text naming → (found : Found) (one : HasOneNaming text)
    → IsFoundNamed text one.naming found → IsFoundNamed text naming found
from_naming text naming names found one is = subst (λ n. IsFoundNamed text n found) (sym (one.only naming names)) is

to_naming : (text : List ℕ) (naming : Naming) → Names text naming → (found : Found)
    → IsFoundNamed text naming found → IsFoundNamed text (one_naming text).naming found
to_naming text naming names found is = subst (λ n. IsFoundNamed text n found) ((one_naming text).only naming names) is

pub returns-clause-named : goal.returns-clause-named
returns-clause-named c text kind names max result = (
  λ it. (it.0, from_naming text (Ok kind) names it.0 it.1.0 it.1.1, it.2),
  λ it. (it.0, (one_naming text, to_naming text (Ok kind) names it.0 it.1), it.2),
)

pub returns-clause-unnamed : goal.returns-clause-unnamed
returns-clause-unnamed c text errors names max result =
    let found : Found = Unnamed (map header_error errors) in (
      λ it. subst (λ f. IsAnswer max f result) (from_naming text (Err errors) names it.0 it.1.0 it.1.1) it.2,
      λ it. (found, (one_naming text, to_naming text (Err errors) names found refl), it),
    )
