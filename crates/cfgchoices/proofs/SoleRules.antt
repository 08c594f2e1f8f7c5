-- Whether rules have at most one optimal production, as a pass over the productions finds it.
use Rattle.std.proofs.Common.{◌≡◌, ℕ, ◌+◌, ◌<◌, ◌⊎◌, inl, inr, Bool, true, false, List, get_or, length, slice_set, arith, sym, ap, ◌∙◌, subst, true≢false}
use Rattle.std.proofs.lemmas.Bool.{cases_lt}
use Rattle.std.proofs.lemmas.List.{get_or_default, get_or-set_same, length-set}
use Rattle.lemmas.proofs.Elements.{get_or-set}
use Rattle.derivation.specs.Grammar.{Grammar}
use Rattle.cfgtables.specs.Openings.{nth_production}
use Rattle.cfgchoices.specs.Inner.Candidates.{IsOptimalByKind}
use Rattle.cfgchoices.specs.declared.kinds.Kind.{Kind}

module _ {S : Type 0} (kinds : List (Kind S)) (g : Grammar) where
  abbrev rule_of : ℕ → ℕ
  rule_of p = (nth_production g p).rule

  -- among the first n productions: which rules have an optimal one, and which have two
  pub record SoleSoFar (n : ℕ) (sole seen : List Bool) : Type 0 where
    pub flags : length sole ≡ g.rules
    pub rules : length seen ≡ g.rules
    pub none : (r : ℕ) → get_or seen r false ≡ false → (p : ℕ) → p < n → IsOptimalByKind kinds p → (nth_production g p).rule ≡ r → ⊥
    pub one : (r : ℕ) → get_or sole r false ≡ true → (p q : ℕ) → p < n → q < n → IsOptimalByKind kinds p → IsOptimalByKind kinds q
        → (nth_production g p).rule ≡ r → (nth_production g q).rule ≡ r → p ≡ q

  pub sole_none : (sole seen : List Bool) → length sole ≡ g.rules → length seen ≡ g.rules → SoleSoFar 0 sole seen
  sole_none sole seen flags rules = record {
    flags = flags;
    rules = rules;
    none = λ _ _ _ lt. absurd (omega (arith, lt));
    one = λ _ _ _ _ lt. absurd (omega (arith, lt));
  }

  module _ (n : ℕ) (sole seen : List Bool) (a : SoleSoFar n sole seen) where
    old_or_new : (p : ℕ) → p < n + 1 → (p < n) ⊎ (p ≡ n)
    old_or_new p lt = elim (cases_lt p n) [ inl less ↦ inl less | inr ge ↦ inr (omega (arith, lt, ge)) ]

    -- the new one isn't of the rule, or isn't optimal
    other : (r p : ℕ) → (IsOptimalByKind kinds n → rule_of n ≡ r → ⊥) → p < n + 1 → IsOptimalByKind kinds p → rule_of p ≡ r → p < n
    other r p not lt counts is = elim (old_or_new p lt) [ inl less ↦ less | inr same ↦ absurd (not (subst (IsOptimalByKind kinds) same counts) (ap rule_of (sym same) ∙ is)) ]

    one_other : (r : ℕ) → (IsOptimalByKind kinds n → rule_of n ≡ r → ⊥) → get_or sole r false ≡ true → (p q : ℕ) → p < n + 1 → q < n + 1 → IsOptimalByKind kinds p → IsOptimalByKind kinds q
        → rule_of p ≡ r → rule_of q ≡ r → p ≡ q
    one_other r not e p q lt lt' i j h k = a.one r e p q (other r p not lt i h) (other r q not lt' j k) i j h k

    pub sole_suboptimal : (IsOptimalByKind kinds n → ⊥) → SoleSoFar (n + 1) sole seen
    sole_suboptimal suboptimal = record {
      flags = a.flags;
      rules = a.rules;
      none = λ r e p lt i h. a.none r e p (other r p (λ c _. suboptimal c) lt i h) i h;
      one = λ r e. one_other r (λ c _. suboptimal c) e;
    }

    module _ (i : ℕ) (at : i ≡ rule_of n) (within : i < g.rules) (b : Bool) (read : b ≡ get_or seen i b) where
      was : get_or seen (rule_of n) false ≡ b
      was = ap (λ r. get_or seen r false) (sym at) ∙ get_or_default seen i false b (subst (λ m. i < m) (sym a.rules) within) ∙ sym read

      -- the rule has another one already
      pub sole_second : b ≡ true → SoleSoFar (n + 1) (slice_set sole i false) seen
      sole_second e = record {
        flags = length-set sole i false ∙ a.flags;
        rules = a.rules;
        none = λ r none p lt c h. a.none r none p (other r p (λ _ is. true≢false (sym (was ∙ e) ∙ ap (λ m. get_or seen m false) is ∙ none)) lt c h) c h;
        one = λ r t. elim (get_or-set sole i r false false) [
          | inl same ↦ one_other r (λ _ is. true≢false (sym t ∙ ap (λ m. get_or (slice_set sole i false) m false) (sym is ∙ sym at) ∙ get_or-set_same sole i false false (subst (λ m. i < m) (sym a.flags) within))) (sym same ∙ t)
          | inr now ↦ absurd (true≢false (sym t ∙ now.1))
        ];
      }

      -- it has none yet
      pub sole_first : b ≡ false → SoleSoFar (n + 1) sole (slice_set seen i true)
      sole_first e = record {
        flags = a.flags;
        rules = length-set seen i true ∙ a.rules;
        none = λ r none. elim (get_or-set seen i r true false) [
          | inl same ↦ λ p lt c h. a.none r (sym same ∙ none) p (other r p (λ _ is. true≢false (sym (get_or-set_same seen i true false (subst (λ m. i < m) (sym a.rules) within)) ∙ ap (λ m. get_or (slice_set seen i true) m false) (at ∙ is) ∙ none)) lt c h) c h
          | inr now ↦ absurd (true≢false (sym now.1 ∙ none))
        ];
        one = λ r t p q lt lt' c d h k. elim (old_or_new p lt) [
          | inl less ↦ elim (old_or_new q lt') [
            | inl less' ↦ a.one r t p q less less' c d h k
            | inr new ↦ absurd (a.none (rule_of n) (was ∙ e) p less c (h ∙ sym k ∙ ap rule_of new))
          ]
          | inr new ↦ elim (old_or_new q lt') [
            | inl less' ↦ absurd (a.none (rule_of n) (was ∙ e) q less' d (k ∙ sym h ∙ ap rule_of new))
            | inr new' ↦ new ∙ sym new'
          ]
        ];
      }
