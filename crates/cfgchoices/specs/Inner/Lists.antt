-- Lists of productions: the chain productions that lead to one rule, and the base productions of one cost.
use Rattle.std.specs.Prelude.{◌≡◌, ℕ, ◌+◌, ◌<◌, ◌≤◌, List, Option, Some, None, MatchOption, length, slice_index_or}
use Rattle.cfgindex.specs.declared.idxnewtype.PIdx.{PIdx}
use Rattle.cfgleast.specs.Generator.{CostTables, cost_answer}
use Rattle.cfgchoices.specs.Kinds.{IsBase, IsChain}
use Rattle.cfgchoices.specs.declared.first.lists.Listed.{Listed}
use Rattle.cfgchoices.specs.declared.first.lists.Listed.TheVariants.{Base, Chain}
use Rattle.cfgchoices.specs.declared.first.lists.Lists.{Lists}

-- p is a base production that costs c
abbrev pub IsBaseAt : CostTables → ℕ → ℕ → Type 0
IsBaseAt x c p = (base : IsBase x p) × (base.optimal.cost ≡ c)

-- production p is in the list
abbrev pub IsIn : {S : Type 0} → (S → ℕ) → CostTables → Listed S → ℕ → Type 0
IsIn number x (Base c) p = IsBaseAt x c p
IsIn number x (Chain r) p = IsChain x p (number r.0)

-- the first production from number n on of which `Is` is true, if there is one
abbrev pub IsFirstFrom : {S : Type 0} → (S → ℕ) → (ℕ → Type 0) → ℕ → Option (PIdx S) → Type 0
IsFirstFrom number Is n first = MatchOption first ((p : ℕ) → n ≤ p → Is p → ⊥)
    (λ p. (n ≤ number p.0) × Is (number p.0) × ((q : ℕ) → n ≤ q → q < number p.0 → Is q → ⊥))

-- `firsts` has each list's first production from number n on, `next` the next production in a list after each from number n on
pub record AreListed {S : Type 0} (number : S → ℕ) (Is : ℕ → ℕ → Type 0) (n : ℕ) (firsts next : List (Option (PIdx S))) : Type 0 where
  pub first : (k : ℕ) → IsFirstFrom number (Is k) n (slice_index_or firsts k None)
  pub after : (k p : ℕ) → n ≤ p → Is k p → IsFirstFrom number (Is k) (p + 1) (slice_index_or next p None)

-- the lists of base productions and of chain productions, from number n on
pub record AreLists {S : Type 0} (number : S → ℕ) (x : CostTables) (n : ℕ) (lists : Lists S) : Type 0 where
  pub base : AreListed number (IsBaseAt x) n lists.base.items lists.next.items
  pub chain : AreListed number (λ r p. IsChain x p r) n lists.chain.items lists.next.items
  pub costs : (r c : ℕ) → cost_answer x r ≡ Some c → c < length lists.base.items
  pub rules : length lists.chain.items ≡ x.grammar.rules
  pub positions : length lists.next.items ≡ length x.grammar.productions
