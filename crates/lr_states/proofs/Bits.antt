-- Bits for numbers, as they are read and written.
use Rattle.std.proofs.Common.{◌≡◌, ◌↔◌, inl, inr, ℕ, ◌+◌, ◌<◌, Bool, false, List, Option, IsTrue, get_or, slice_get, slice_set, length, unwrap_or, sym, ap, subst, ◌∙◌, arith}
use Rattle.std.proofs.lemmas.Bool.{cases_eq}
use Rattle.std.proofs.lemmas.List.{get_or-set_other, get_or-set_same}
use Rattle.std.proofs.lemmas.Option.{unwrap_or-slice_get}
use Rattle.lr_states.specs.Inner.Closure.{IsOn}

pub bit_read : (bits : List Bool) (p : ℕ) (read : Option Bool) (bit : Bool) → read ≡ slice_get bits p → bit ≡ unwrap_or read false → bit ≡ get_or bits p false
bit_read bits p read bit got is = is ∙ ap (λ o. unwrap_or o false) got ∙ unwrap_or-slice_get bits p false

-- one more bit is written
pub bits_more : (P : ℕ → Type 0) (bits : List Bool) (i : ℕ) (bit : Bool) → i < length bits → ((p : ℕ) → IsOn bits p ↔ ((p < i) × P p)) → IsTrue bit ↔ P i
    → (p : ℕ) → IsOn (slice_set bits i bit) p ↔ ((p < i + 1) × P p)
bits_more P bits i bit within known is p = elim (cases_eq p i) [
  | inl here ↦
      let read : get_or (slice_set bits i bit) p false ≡ bit = ap (λ n. get_or (slice_set bits i bit) n false) here ∙ get_or-set_same bits i bit false within in (
        (λ on. (omega (arith, here), subst P (sym here) (is.0 (sym read ∙ on)))),
        (λ h. read ∙ is.1 (subst P here h.1)),
      )
  | inr apart ↦
      let read : get_or (slice_set bits i bit) p false ≡ get_or bits p false = get_or-set_other bits i p bit false apart in (
        (λ on. let h = (known p).0 (sym read ∙ on) in let low = h.0 in (omega (arith, low), h.1)),
        (λ h. let low = h.0 in read ∙ (known p).1 (omega (arith, low, apart), h.1)),
      )
]
