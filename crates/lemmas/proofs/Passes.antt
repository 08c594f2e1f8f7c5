-- Passes that report whether they changed anything: if one did, there is more, and if none did, everything is the same.
use Rattle.std.proofs.Common.{◌≡◌, ℕ, ◌<◌, ◌||◌, Bool, true, false, arith, refl, sym, subst, true≢false}

-- two steps grow if one of them does
pub grown : {X : Type 0} (bits : X → ℕ) (old mid new : X) (c r : Bool) → (c ≡ true → bits old < bits mid) → (c ≡ false → mid ≡ old) → (r ≡ true → bits mid < bits new) → (r ≡ false → new ≡ mid)
    → (c || r) ≡ true → bits old < bits new
grown bits old mid new true true m s m' s' e = let h = m refl in let k = m' refl in omega (arith, h, k)
grown bits old mid new true false m s m' s' e = subst (λ x. bits old < bits x) (sym (s' refl)) (m refl)
grown bits old mid new false true m s m' s' e = subst (λ x. bits x < bits new) (s refl) (m' refl)
grown bits old mid new false false m s m' s' e = absurd (true≢false (sym e))
