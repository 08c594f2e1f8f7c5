-- What is printed of several errors, one after another.
use Rattle.std.proofs.Common.{◌≡◌, ℕ, List, ◌∷◌, [], ◌++◌, sym, subst}
use Rattle.cfgbase.specs.declared.span.Span.{Span}
use Rattle.cfgbase.specs.declared.span.SpansKind.{SpansKind}
use Rattle.cfgrender.specs.Render.{RendersEach, more, rendered}

-- what is printed of the next one follows what is printed of the first ones
pub one_more : {A : Type 0} (Prints : A → List ℕ → Type 0) (spans : A → List Span) (kind : A → SpansKind) (name text : List ℕ)
    (shown next : List A) (error : A) (message out new : List ℕ)
    → RendersEach Prints spans kind name text shown out → Prints error message → shown ++ error ∷ [] ≡ next
    → new ≡ out ++ rendered name text message (spans error) (kind error)
    → RendersEach Prints spans kind name text next new
one_more Prints spans kind name text shown next error message out new before prints is added =
    subst (λ new. RendersEach Prints spans kind name text next new) (sym added)
    (subst (λ next. RendersEach Prints spans kind name text next (out ++ rendered name text message (spans error) (kind error))) is
    (more before prints))
