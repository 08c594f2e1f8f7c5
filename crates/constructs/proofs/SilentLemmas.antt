-- Pieces in which nothing counts as read.
use Rattle.std.proofs.Common.{◌≡◌, ℕ, ◌≤◌, List, length, Result, Ok, refl, sym, ap₂, arith}
use Rattle.constructs.specs.Graph.{IsGraph}
use Rattle.constructs.specs.Silent.{Silently, silently}
use Rattle.constructs.proofs.Lengths.{Shortens}

module _ {I F A : Type 0} {P : List ℕ → Result (A × List ℕ) F → Type 0} {p : List ℕ → Result (A × List ℕ) F} where
  pub silently_graph : IsGraph P p → IsGraph (Silently {I = I} P) (silently p)
  silently_graph h = record {
    sound = λ text. record { silent = refl; outcome = h.sound text };
    only = λ text r s. ap₂ (λ (items : List I) (outcome : Result (A × List ℕ) F). record { items = items; outcome = outcome }) (sym s.silent) (h.only text r.outcome s.outcome);
  }

pub silently_shortens : {I F A : Type 0} {p : List ℕ → Result (A × List ℕ) F}
    → ((text : List ℕ) (a : A) (rest : List ℕ) → p text ≡ Ok (a, rest) → length rest ≤ length text) → Shortens (λ _. 0) (silently {I = I} p)
silently_shortens h = record { least = λ text a rest e. omega (arith, h text a rest e) }
