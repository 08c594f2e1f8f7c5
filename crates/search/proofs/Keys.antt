-- Numbers as keys of sets, and sets of them as lists of bits.
use Rattle.std.proofs.Common.{◌≡◌, ℕ, ◌<◌, ◌⊎◌, inl, inr, Bool, true, false, [], cond, length, replicate, get_or, slice_get, slice_set, not, Some, arith, refl, sym, ap, subst, ◌∙◌, length-set, get_or-set_same}
use Rattle.std.specs.Ordering.{is_eq, nat_cmp}
use Rattle.std.specs.BTreeMap.{is_at}
use Rattle.std.specs.BTreeSet.{BTreeSet, contains}
use Rattle.std.specs.List.{list_any}
use Rattle.std.proofs.lemmas.Cmp.{ranked, by_ranked}
use Rattle.std.proofs.lemmas.List.{get_or-set_other, length-replicate}
use Rattle.std.proofs.lemmas.List.FromFn.{fill_by_all, get_or-map-range_with_len, length-map-range_with_len}
use Rattle.std.proofs.lemmas.Option.{slice_get-get_or}
use Rattle.lemmas.proofs.Elements.{get_or-replicate_default}
use Rattle.search.specs.Inner.Marks.{bits_at}

-- a key is the one that is looked up, or isn't
pub same_key : (k q : ℕ) → ((is_at (nat_cmp k) q ≡ true) × (k ≡ q)) ⊎ ((is_at (nat_cmp k) q ≡ false) × (k ≡ q → ⊥))
same_key k q = by_ranked (k < q) (k ≡ q) (q < k) (nat_cmp k q) (ranked k q (nat_cmp k q) refl)
    (λ o h. inr (ap is_eq o, λ e. omega (arith, h, e)))
    (λ o e. inl (ap is_eq o, e))
    (λ o h. inr (ap is_eq o, λ e. omega (arith, h, e)))

pub itself_found : (k : ℕ) → is_at (nat_cmp k) k ≡ true
itself_found k = elim (same_key k k) [ inl h ↦ h.0 | inr h ↦ absurd (h.1 refl) ]

-- bits none of which is on, and one bit that was turned on
pub no_bits : (n : ℕ) (s : BTreeSet ℕ) → s.keys ≡ [] → bits_at n s ≡ replicate n false
no_bits n s none = sym (fill_by_all (contains nat_cmp s) (replicate n false) n false (length-replicate n false)
    (λ k lt. get_or-replicate_default n k false ∙ sym (ap (list_any (is_at (nat_cmp k))) none)))

pub bits_length : (n : ℕ) (s : BTreeSet ℕ) → length (bits_at n s) ≡ n
bits_length n s = length-map-range_with_len (contains nat_cmp s) 0 n

pub bit_at : (n : ℕ) (s : BTreeSet ℕ) (k : ℕ) → k < n → get_or (bits_at n s) k false ≡ contains nat_cmp s k
bit_at n s k lt = get_or-map-range_with_len (contains nat_cmp s) 0 n k k false lt (omega arith)

module _ (n : ℕ) (s : BTreeSet ℕ) (index : ℕ) (within : index < n) where
  inside : index < length (bits_at n s)
  inside = subst (λ m. index < m) (sym (bits_length n s)) within

  pub bit_was : (fresh : Bool) → fresh ≡ not (contains nat_cmp s index) → slice_get (bits_at n s) index ≡ Some (not fresh)
  bit_was fresh e = slice_get-get_or (bits_at n s) index false inside ∙ ap Some (bit_at n s index within ∙ twice (contains nat_cmp s index) ∙ ap not (sym e))
    where
      twice : (b : Bool) → b ≡ not (not b)
      twice true = refl
      twice false = refl

  pub bit_on : (s' : BTreeSet ℕ) → ((q : ℕ) → contains nat_cmp s' q ≡ cond (is_at (nat_cmp index) q) true (contains nat_cmp s q)) → bits_at n s' ≡ slice_set (bits_at n s) index true
  bit_on s' now = sym (fill_by_all (contains nat_cmp s') (slice_set (bits_at n s) index true) n false (length-set (bits_at n s) index true ∙ bits_length n s)
      (λ k lt. elim (same_key index k) [
        | inl h ↦ ap (λ i. get_or (slice_set (bits_at n s) index true) i false) (sym h.1) ∙ get_or-set_same (bits_at n s) index true false inside
            ∙ sym (now k ∙ ap (λ b. cond b true (contains nat_cmp s k)) h.0)
        | inr h ↦ get_or-set_other (bits_at n s) index k true false (λ e. h.1 (sym e)) ∙ bit_at n s k lt ∙ sym (now k ∙ ap (λ b. cond b true (contains nat_cmp s k)) h.0)
      ]))
