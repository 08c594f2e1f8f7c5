-- What the kinds of the productions say: which are optimal, and which lead to a rule.
use Rattle.std.proofs.Common.{◌≡◌, ℕ, ◌<◌, ◌⊎◌, inl, inr, List, Bool, true, false, get_or, length, Some, sym, subst}
use Rattle.derivation.specs.Grammar.{IsGrammar}
use Rattle.cfgtables.specs.Openings.{nth_production}
use Rattle.cfgleast.specs.Generator.{CostTables, IsGenerator, cost_answer}
use Rattle.cfgchoices.specs.Kinds.{AreKinds, IsBase, IsChain, IsKind, IsOptimal}
use Rattle.cfgchoices.specs.Inner.Candidates.{IsOptimalByKind, IsKnown}
use Rattle.cfgchoices.specs.declared.kinds.Kind.{Kind}
use Rattle.cfgchoices.specs.declared.kinds.Kind.TheVariants as variants
use Rattle.cfgchoices.specs.declared.kinds.Kind.TheVariants.{Suboptimal, Base}

module _ {S : Type 0} (number : S → ℕ) (x : CostTables) (kinds : List (Kind S)) (are : AreKinds number x kinds) where
  within : (p : ℕ) → IsOptimal x p → p < length kinds
  within p optimal = subst (λ n. p < n) (sym are.all) optimal.index

  counted : (p : ℕ) → IsOptimal x p → IsOptimalByKind kinds p
  counted p optimal = (within p optimal, λ e. subst (IsKind number x p) e (are.each p (within p optimal)) optimal)

  base_or_target : (p : ℕ) → IsOptimal x p → IsBase x p ⊎ ((q : ℕ) × IsChain x p q)
  base_or_target p optimal = go (get_or kinds p Suboptimal) (are.each p (within p optimal))
    where
      go : (kind : Kind S) → IsKind number x p kind → IsBase x p ⊎ ((q : ℕ) × IsChain x p q)
      go Suboptimal is = absurd (is optimal)
      go Base is = inl is
      go (variants.Chain r) is = inr (number r.0, is)

  pub known : (n : ℕ) → IsGenerator x n → IsGrammar x.grammar → (sole : List Bool) (limit : ℕ) → length sole ≡ x.grammar.rules
      → ((r : ℕ) → get_or sole r false ≡ true → (p q : ℕ) → IsOptimalByKind kinds p → IsOptimalByKind kinds q → (nth_production x.grammar p).rule ≡ r → (nth_production x.grammar q).rule ≡ r → p ≡ q)
      → ((r c : ℕ) → cost_answer x r ≡ Some c → c < limit) → IsKnown (record { tables = x; sole = sole; limit = limit }) n
  known n generator grammar sole limit flags one costs = record {
    generator = generator;
    grammar = grammar;
    flags = flags;
    sole = λ r e p q i j. one r e p q (counted p i) (counted q j);
    kinds = base_or_target;
    costs = costs;
  }
