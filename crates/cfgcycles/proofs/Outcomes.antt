-- Facts of a value that may be an error.
use Rattle.std.proofs.Common.{Result, Ok, Err, OnOk}

pub on_ok_from : {T E A : Type 0} (r : Result T E) → A → OnOk r A
on_ok_from (Ok x) a = a
on_ok_from (Err e) a = tt
