-- What holds of a result holds of the value in it.
use Rattle.std.proofs.Common.{◌≡◌, Result, Ok, IfOk, subst}
use Rattle.std.specs.Prelude.{MatchResult}

pub given : {A E : Type 0} (P : A → Type 0) (result : Result A E) (x : A) → result ≡ Ok x → IfOk result P → P x
given P result x is holds = subst (λ r. IfOk r P) is holds

pub given_match : {A E : Type 0} (P : A → Type 0) (Q : E → Type 0) (result : Result A E) (x : A) → result ≡ Ok x → MatchResult result P Q → P x
given_match P Q result x is holds = subst (λ r. MatchResult r P Q) is holds
