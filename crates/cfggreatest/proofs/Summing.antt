-- Sums of lists, symbol by symbol.
use Rattle.std.proofs.Common.{◌≡◌, ℕ, ◌+◌, ◌<◌, ◌≤◌, min, List, [], ◌∷◌, ◌++◌, Option, Some, None, Result, Ok, Err, get_or, length, map, take, refl, sym, ap, subst, ◌∙◌, arith}
use Rattle.std.proofs.lemmas.List.{length-map, take_all, take_more}
use Rattle.std.proofs.lemmas.List.Elements.{All-nil, All-push}
use Rattle.std.proofs.lemmas.List.Sums.{sum_by_push}
use Rattle.derivation.specs.Grammar.{Sym, Rule, Token}
use Rattle.derivation.specs.declared.errors.CostError.{CostError}
use Rattle.cfgtables.proofs.Slices.{mapped_at, mapped_within}
use Rattle.cfggreatest.specs.Inner.AtLeast.{weigh}
use Rattle.cfggreatest.specs.Inner.Known.{known_cost, read_known, read_symbol}
use Rattle.cfggreatest.specs.Inner.Sums.{IsRead, IsSum}

-- what a symbol costs outside the group, which is c when it is cut down
record CostsOutside (costs : ℕ → ℕ) (c : ℕ) : Type 0 where
  rest : ℕ
  cut : min c 65536 ≡ min rest 65536
  all : (k : ℕ) → costs k ≡ rest

known_outside : (large : ℕ) → 65535 < large → (k : Option (Result (Option ℕ) CostError)) (c : ℕ) → read_known k ≡ Ok (Some c) → CostsOutside (λ n. known_cost n large k) c
known_outside large many None c e = absurd (cc)
known_outside large many (Some (Ok None)) c e = absurd (cc)
known_outside large many (Some (Ok (Some d))) c e = record { rest = d; cut = ap (λ n. min n 65536) (let same : c ≡ d = cc in same); all = λ k. refl }
known_outside large many (Some (Err f)) c e = record { rest = large; cut = (let same : c ≡ 65536 = cc in omega (arith, same)); all = λ k. refl }

known_inside : (large n : ℕ) (k : Option (Result (Option ℕ) CostError)) → read_known k ≡ Ok None → known_cost n large k ≡ n
known_inside large n None e = refl
known_inside large n (Some (Ok None)) e = absurd (cc)
known_inside large n (Some (Ok (Some d))) e = absurd (cc)
known_inside large n (Some (Err f)) e = absurd (cc)

module _ (cost : ℕ → ℕ) (known : ℕ → Option (Result (Option ℕ) CostError)) where
  pub sum_none : IsSum cost known [] 0 0
  sum_none = record { read = All-nil (IsRead cost known); sum = λ large many. record { rest = 0; cut = omega arith; whole = λ k. omega arith } }

  symbol_outside : (large : ℕ → ℕ) → ((r : ℕ) → 65535 < large r) → (s : Sym) (c : ℕ) → read_symbol cost known s ≡ Ok (Some c)
      → CostsOutside (λ n. weigh cost (λ r. known_cost n (large r) (known r)) s) c
  symbol_outside large many (Rule r) c e = known_outside (large r) (many r) (known r) c e
  symbol_outside large many (Token t) c e = record { rest = cost t; cut = ap (λ n. min n 65536) (let same : c ≡ cost t = cc in same); all = λ k. refl }

  symbol_inside : (large : ℕ → ℕ) (s : Sym) (n : ℕ) → read_symbol cost known s ≡ Ok None → weigh cost (λ r. known_cost n (large r) (known r)) s ≡ n
  symbol_inside large (Rule r) n e = known_inside (large r) n (known r) e
  symbol_inside large (Token t) n e = absurd (cc)

  module _ (a : List Sym) (s : Sym) (outer inner : ℕ) (so_far : IsSum cost known a outer inner) where
    -- one more symbol, which costs something outside the group
    pub sum_outside : (c new : ℕ) → read_symbol cost known s ≡ Ok (Some c) → new ≡ min 65536 (outer + c) → IsSum cost known (a ++ s ∷ []) new inner
    sum_outside c new e made = record {
      read = All-push (IsRead cost known) a s so_far.read (Some c, e);
      sum = λ large many.
          let h = so_far.sum large many in
          let o = symbol_outside large many s c e in record {
            rest = h.rest + o.rest;
            cut = let i = h.cut in let j = o.cut in omega (arith, i, j, made);
            whole = λ k. let i = h.whole k in let j = o.all k in
                omega (arith, i, j, sum_by_push (weigh cost (λ r. known_cost k (large r) (known r))) a s);
          };
    }

    -- one more symbol, of the group
    pub sum_inside : read_symbol cost known s ≡ Ok None → IsSum cost known (a ++ s ∷ []) outer (inner + 1)
    sum_inside e = record {
      read = All-push (IsRead cost known) a s so_far.read (None, e);
      sum = λ large many.
          let h = so_far.sum large many in record {
            rest = h.rest;
            cut = h.cut;
            whole = λ k. let i = h.whole k in let j = symbol_inside large s k e in
                omega (arith, i, j, sum_by_push (weigh cost (λ r. known_cost k (large r) (known r))) a s);
          };
    }

-- one more symbol of the code
pub next_taken : {A : Type 0} (f : A → Sym) (xs : List A) (i : ℕ) (x : A) → i < length xs → x ≡ get_or xs i x → take (i + 1) (map f xs) ≡ take i (map f xs) ++ f x ∷ []
next_taken f xs i x lt is = take_more (map f xs) i (f x) (mapped_within f xs i x is lt) ∙ ap (λ y. take i (map f xs) ++ y ∷ []) (sym (mapped_at f xs i x is lt))

pub sum_whole : {A : Type 0} (cost : ℕ → ℕ) (known : ℕ → Option (Result (Option ℕ) CostError)) (f : A → Sym) (xs : List A) (i outer inner : ℕ) → length xs ≤ i
    → IsSum cost known (take i (map f xs)) outer inner → IsSum cost known (map f xs) outer inner
sum_whole cost known f xs i outer inner past = subst (λ (a : List Sym). IsSum cost known a outer inner)
    (take_all i (map f xs) (subst (λ n. n ≤ i) (sym (length-map xs f)) past))
