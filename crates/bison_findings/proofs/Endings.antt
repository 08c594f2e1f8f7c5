-- What a text ends with.
use Rattle.std.proofs.Common.{◌≡◌, ℕ, List, ◌++◌, rules}
use Rattle.std.specs.Prelude.{Result, Ok, Err, OnOk, is_ok, if◌then◌else◌}

-- the last one is added, if memory doesn't run out
pub ended : {T E : Type 0} (r : Result T E) (text last after : List ℕ) → after ≡ (if is_ok r then text ++ last else text) → OnOk r (after ≡ text ++ last)
ended (Ok x) text last after is = is
ended (Err e) text last after is = search rules
