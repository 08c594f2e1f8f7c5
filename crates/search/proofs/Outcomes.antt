-- Facts of a value that may be an error.
use Rattle.std.proofs.Common.{Result, Ok, Err, OnOk}

-- five facts make one
pub on_ok_five : {T E A B C D F G : Type 0} (r : Result T E) → (A → B → C → D → F → G) → OnOk r A → OnOk r B → OnOk r C → OnOk r D → OnOk r F → OnOk r G
on_ok_five (Ok x) f a b c d e = f a b c d e
on_ok_five (Err d) f a b c d' e = tt
