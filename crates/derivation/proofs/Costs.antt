-- Least and greatest costs: how they relate to one another, and to the sentences.
use Rattle.std.proofs.Common.{◌≡◌, ◌↔◌, ℕ, ◌≤◌, List, refl, sym, subst, arith}
use Rattle.derivation.specs.Grammar.{Sym}
use Rattle.derivation.specs.Sentence.{Sentence, cost_of}
use Rattle.derivation.specs.Costs.{Least, Minimal, Greatest, Unbounded}

module _ (P : ℕ → List Sym → Type 0) (cost : ℕ → ℕ) (r : ℕ) where
  pub minimal_costs_least : (w : List ℕ) → Minimal P cost r w → Least P cost r (cost_of cost w)
  minimal_costs_least w (s, m) = ((w, s, refl), m)

  pub least_is_one : (c d : ℕ) → Least P cost r c → Least P cost r d → c ≡ d
  least_is_one c d ((w, s, e), l) ((v, t, f), k) = omega (arith, l v t, k w s)

  pub minimal_if_least : (c : ℕ) (w : List ℕ) → Least P cost r c
      → Minimal P cost r w ↔ (Sentence P r w × (cost_of cost w ≡ c))
  minimal_if_least c w l = (
    (λ m. (m.0, least_is_one (cost_of cost w) c (minimal_costs_least w m) l)),
    (λ (s, e). (s, (λ v t. subst (λ n. n ≤ cost_of cost v) (sym e) (l.1 v t)))),
  )

  pub greatest_is_bound : (c : ℕ) → Greatest P cost r c → Unbounded P cost r → ⊥
  greatest_is_bound c h u = let (w, s, more) = u c in omega (arith, h.1 w s, more)

  pub greatest_is_one : (c d : ℕ) → Greatest P cost r c → Greatest P cost r d → c ≡ d
  greatest_is_one c d ((w, s, e), h) ((v, t, f), k) = omega (arith, h v t, k w s)

  pub greatest_if_none_more : (w : List ℕ) → Sentence P r w
      → ((v : List ℕ) → Sentence P r v → cost_of cost v ≤ cost_of cost w)
      → Greatest P cost r (cost_of cost w)
  greatest_if_none_more w s h = ((w, s, refl), h)

  pub least_up_to_greatest : (c d : ℕ) → Least P cost r c → Greatest P cost r d → c ≤ d
  least_up_to_greatest c d ((w, s, e), l) (_, h) = omega (arith, l w s, h w s)
