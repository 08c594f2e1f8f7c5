-- A result for a rule's greatest cost is the only one that is true of it.
use Rattle.std.proofs.Common.{◌≡◌, ◌↔◌, ℕ, ◌<◌, ◌≤◌, List, Option, Some, None, Result, Ok, Err, refl, ap, subst, arith}
use Rattle.derivation.specs.Grammar.{Sym}
use Rattle.derivation.specs.Costs.{Greatest, Unbounded}
use Rattle.derivation.proofs.Costs.{greatest_is_bound, greatest_is_one}
use Rattle.derivation.specs.declared.errors.CostError.{CostError}
use Rattle.derivation.specs.declared.errors.CostError.TheVariants.{NoSentence, CostTooLarge}
use Rattle.cfggreatest.specs.GreatestCosts.{Means}

module _ (P : ℕ → List Sym → Type 0) (cost : ℕ → ℕ) (r : ℕ) where
  none_grows : Means P cost r (Err NoSentence) → Unbounded P cost r → ⊥
  none_grows none more = let h = more 0 in none h.0 h.1

  none_tops : (n : ℕ) → Means P cost r (Err NoSentence) → Greatest P cost r n → ⊥
  none_tops n none top = none top.0.0 top.0.1

  over : (c n : ℕ) → Greatest P cost r c → c ≤ 65535 → Greatest P cost r n → 65535 < n → ⊥
  over c n top few other many = absurd (omega (arith, few, many, greatest_is_one P cost r c n top other))

  -- two results that are both true are the same
  pub meant_once : (s t : Result (Option ℕ) CostError) → Means P cost r s → Means P cost r t → s ≡ t
  meant_once (Err NoSentence) (Err NoSentence) h k = refl
  meant_once (Err NoSentence) (Ok None) h k = absurd (none_grows h k)
  meant_once (Err NoSentence) (Ok (Some d)) h k = absurd (none_tops d h k.0)
  meant_once (Err NoSentence) (Err CostTooLarge) h k = absurd (none_tops k.0 h k.1)
  meant_once (Ok None) (Err NoSentence) h k = absurd (none_grows k h)
  meant_once (Ok None) (Ok None) h k = refl
  meant_once (Ok None) (Ok (Some d)) h k = absurd (greatest_is_bound P cost r d k.0 h)
  meant_once (Ok None) (Err CostTooLarge) h k = absurd (greatest_is_bound P cost r k.0 k.1 h)
  meant_once (Ok (Some c)) (Err NoSentence) h k = absurd (none_tops c k h.0)
  meant_once (Ok (Some c)) (Ok None) h k = absurd (greatest_is_bound P cost r c h.0 k)
  meant_once (Ok (Some c)) (Ok (Some d)) h k = ap (λ n. Ok (Some n)) (greatest_is_one P cost r c d h.0 k.0)
  meant_once (Ok (Some c)) (Err CostTooLarge) h k = absurd (over c k.0 h.0 h.1 k.1 k.2)
  meant_once (Err CostTooLarge) (Err NoSentence) h k = absurd (none_tops h.0 k h.1)
  meant_once (Err CostTooLarge) (Ok None) h k = absurd (greatest_is_bound P cost r h.0 h.1 k)
  meant_once (Err CostTooLarge) (Ok (Some d)) h k = absurd (over d h.0 k.0 k.1 h.1 h.2)
  meant_once (Err CostTooLarge) (Err CostTooLarge) h k = refl

  -- so a result is returned exactly if it is true
  pub exactly : (s t : Result (Option ℕ) CostError) → Means P cost r s → (s ≡ t) ↔ Means P cost r t
  exactly s t h = ((λ e. subst (Means P cost r) e h), (λ k. meant_once s t h k))
