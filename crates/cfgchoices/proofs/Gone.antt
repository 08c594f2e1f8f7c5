-- A pass over a list: the productions before the next one were added to the candidates.
use Rattle.std.proofs.Common.{◌≡◌, ℕ, ◌+◌, ◌-◌, ◌<◌, ◌≤◌, inl, inr, length, Option, Some, None, arith, refl, sym, subst, ◌∙◌}
use Rattle.std.proofs.lemmas.Bool.{cases_lt}
use Rattle.cfgindex.specs.declared.idxnewtype.PIdx.{PIdx}
use Rattle.cfgleast.specs.Generator.{CostTables}
use Rattle.cfgchoices.specs.Kinds.{IsChain, IsOptimal}
use Rattle.cfgchoices.specs.Inner.Lists.{IsFirstFrom, IsIn, IsBaseAt}
use Rattle.cfgchoices.specs.Inner.Candidates.{Adds, IsCandidate, Known, Candidates}
use Rattle.cfgchoices.specs.declared.first.lists.Listed.{Listed}
use Rattle.cfgchoices.specs.declared.first.lists.Listed.TheVariants.{Base, Chain}

pub in_optimal : {S : Type 0} (number : S → ℕ) (x : CostTables) (listed : Listed S) (p : ℕ) → IsIn number x listed p → IsOptimal x p
in_optimal number x (Base c) p h = h.0.optimal
in_optimal number x (Chain r) p h = h.optimal

pub next_in : {S : Type 0} (number : S → ℕ) (x : CostTables) (listed : Listed S) (p : ℕ) (next : Option (PIdx S)) → IsIn number x listed p
    → ((c : ℕ) → IsBaseAt x c p → IsFirstFrom number (IsBaseAt x c) (p + 1) next) → ((r : ℕ) → IsChain x p r → IsFirstFrom number (λ q. IsChain x q r) (p + 1) next)
    → IsFirstFrom number (IsIn number x listed) (p + 1) next
next_in number x (Base c) p next h base chain = base c h
next_in number x (Chain r) p next h base chain = chain (number r.0) h

-- how many productions are left from the next one on
abbrev pub left_from : {S : Type 0} → (S → ℕ) → ℕ → Option (PIdx S) → ℕ
left_from number n None = 0
left_from number n (Some p) = n - number p.0

module _ {S : Type 0} (number : S → ℕ) (x : CostTables) (listed : Listed S) (f : Candidates) where
  abbrev Is : ℕ → Type 0
  Is = IsIn number x listed

  pub record Gone (f' : Candidates) (next : Option (PIdx S)) : Type 0 where
    pub from : ℕ
    pub within : from ≤ length x.grammar.productions
    pub first : IsFirstFrom number (IsIn number x listed) from next
    pub adds : Adds x (λ p. IsIn number x listed p × (p < from)) from f f'

  pub gone_begins : (next : Option (PIdx S)) → IsFirstFrom number Is 0 next → Gone f next
  gone_begins next first = record {
    from = 0;
    within = omega arith;
    first = first;
    adds = record { choices = refl; number = refl; cost = refl; handles = λ q h. elim h [ inl old ↦ old | inr none ↦ absurd (omega (arith, none.1)) ]; together = omega arith };
  }

  pub gone_more : (mid f' : Candidates) (p : PIdx S) (next : Option (PIdx S)) → Gone mid (Some p) → Adds x (λ q. q ≡ number p.0) 1 mid f' → IsFirstFrom number Is (number p.0 + 1) next → Gone f' next
  gone_more mid f' p next g b first =
      let (le, is, none) = g.first in
      let index = (in_optimal number x listed (number p.0) is).index in
      let a = g.adds in record {
        from = number p.0 + 1;
        within = omega (arith, index);
        first = first;
        adds = record {
          choices = b.choices ∙ a.choices;
          number = b.number ∙ a.number;
          cost = b.cost ∙ a.cost;
          handles = λ q h. elim h [
            | inl old ↦ b.handles q (inl (a.handles q (inl old)))
            | inr among ↦ elim (cases_lt q g.from) [
              | inl less ↦ b.handles q (inl (a.handles q (inr (among.0, less))))
              | inr ge ↦ elim (cases_lt q (number p.0)) [
                | inl before ↦ absurd (none q ge before among.0)
                | inr after ↦ b.handles q (inr (omega (arith, among.1, after)))
              ]
            ]
          ];
          together = omega (arith, a.together, b.together, le);
        };
      }

  pub gone_ends : (f' : Candidates) → Gone f' None → Adds x Is (length x.grammar.productions) f f'
  gone_ends f' g =
      let a = g.adds in record {
        choices = a.choices;
        number = a.number;
        cost = a.cost;
        handles = λ q h. elim h [
          | inl old ↦ a.handles q (inl old)
          | inr among ↦ elim (cases_lt q g.from) [ inl less ↦ a.handles q (inr (among, less)) | inr ge ↦ absurd (g.first q ge among) ]
        ];
        together = omega (arith, a.together, g.within);
      }

  pub gone_less : (f' : Candidates) (p : PIdx S) (next : Option (PIdx S)) → Gone f' (Some p) → IsFirstFrom number Is (number p.0 + 1) next → left_from number (length x.grammar.productions) next < left_from number (length x.grammar.productions) (Some p)
  gone_less f' p next g first =
      let index = (in_optimal number x listed (number p.0) g.first.1).index in
      go next first index
    where
      go : (next : Option (PIdx S)) → IsFirstFrom number Is (number p.0 + 1) next → number p.0 < length x.grammar.productions → left_from number (length x.grammar.productions) next < length x.grammar.productions - number p.0
      go None first index = omega (arith, index)
      go (Some q) first index = omega (arith, first.0, index)

-- what could be a candidate still can
pub nominated_still : (k : Known) (Is : ℕ → Type 0) (n : ℕ) (f f' : Candidates) → Adds k.tables Is n f f' → (q : ℕ) → IsCandidate k f.choices f.number f.cost q → IsCandidate k f'.choices f'.number f'.cost q
nominated_still k Is n f f' a q o = subst (λ c. IsCandidate k f'.choices f'.number c q) (sym a.cost)
    (subst (λ m. IsCandidate k f'.choices m f.cost q) (sym a.number) (subst (λ l. IsCandidate k l f.number f.cost q) (sym a.choices) o))
