-- A prefix that is written, of bytes in several pieces.
use Rattle.std.specs.Prelude.{OnOk, OnErr}
use Rattle.std.proofs.Common.{inl, inr, ◌≡◌, ℕ, ◌+◌, List, ◌++◌, length, take, Option, Result, Ok, Err, sym, ap, ◌∙◌, subst, arith, length-append}
use lib.Seq.{take-append-le, take-append-add}
use Rattle.std.specs.Io.KnownBytes.{Appends}
use Rattle.std.proofs.KnownBytes.{Appends-trans}
use Rattle.cfgsink.specs.Sinks.{AppendsPrefix, AppendsOrFaults}

-- a prefix of the first piece
pub prefix_of_first : (a b : Option (List ℕ)) (xs ys : List ℕ) → AppendsPrefix a b xs → AppendsPrefix a b (xs ++ ys)
prefix_of_first a b xs ys (n, within, appended) =
    (n, omega (arith, within, length-append xs ys), subst (Appends a b) (sym (take-append-le n xs ys (omega (arith, within)))) appended)

-- the first piece, and a prefix of what follows it
pub prefix_after : (a b c : Option (List ℕ)) (xs ys : List ℕ) → Appends a b xs → AppendsPrefix b c ys → AppendsPrefix a c (xs ++ ys)
prefix_after a b c xs ys first (n, within, appended) =
    (length xs + n, omega (arith, within, length-append xs ys), subst (Appends a c) (sym (take-append-add xs ys n)) (Appends-trans a b c xs (take n ys) first appended))

-- what a call that appends these bytes, or counts a fault, did
pub whole_or_faults : {A E : Type 0} (r : Result A E) (a b : Option (List ℕ)) (f g : ℕ) (xs : List ℕ)
    → OnOk r (Appends a b xs) → OnOk r (g ≡ f) → OnErr r (AppendsPrefix a b xs) → OnErr r (g ≡ f + 1) → AppendsOrFaults a b f g xs
whole_or_faults (Ok x) a b f g xs appended same began more = inl (same, appended)
whole_or_faults (Err e) a b f g xs appended same began more = inr (more, began)

-- a piece, and then one after it
pub then_or_faults : (a b c : Option (List ℕ)) (f g h : ℕ) (xs ys : List ℕ) → Appends a b xs → g ≡ f → AppendsOrFaults b c g h ys → AppendsOrFaults a c f h (xs ++ ys)
then_or_faults a b c f g h xs ys first same (inl (rest, appended)) = inl (rest ∙ same, Appends-trans a b c xs ys first appended)
then_or_faults a b c f g h xs ys first same (inr (more, began)) = inr (more ∙ ap (λ n. n + 1) same, prefix_after a b c xs ys first began)
