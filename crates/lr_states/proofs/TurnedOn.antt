-- Bits that are turned on, one node after another.
use Rattle.std.proofs.Common.{◌≡◌, ℕ, ◌+◌, ◌<◌, ◌≤◌, ◌↔◌, ◌⊎◌, inl, inr, Bool, true, false, List, [], All, Contains, get_or, length, slice_index, slice_set, take, arith, refl, sym, ap, ◌∙◌, subst, length-set, true≢false}
use Rattle.std.proofs.lemmas.List.{get_or_default, take_all}
use Rattle.std.proofs.lemmas.List.Elements.{Contains-get_or}
use Rattle.lemmas.proofs.Adding.{adds_as, adds_then}
use Rattle.cfgrammar.proofs.Contained.{contains_none}
use Rattle.cfgrammar.proofs.Elements.{within_from_get_or}
use Rattle.cfgrammar.proofs.Taken.{contains_taken}
use Rattle.cfgindex.proofs.Bits.{length-union, union, union_adds}
use Rattle.search.specs.Reachable.{FoundBy}
use Rattle.search.proofs.Bits.{bit_put}
use Rattle.lr_states.specs.Inner.Reached.{AreWithin, IsInRow, IsOn, TurnsOn}

-- nothing new was found
pub turns_nothing : (Found : ℕ → Type 0) (row : List Bool) → ((t : ℕ) → t < length row → Found t → IsOn row t) → TurnsOn Found row row
turns_nothing Found row known = record { bits = refl; each = λ t. (λ h. inl h, λ h. elim h [ inl on ↦ on | inr found ↦ known t found.0 found.1 ]) }

-- what was found, described differently
turns_as : (Found Found' : ℕ → Type 0) (old new : List Bool) → ((t : ℕ) → Found t → Found' t) → ((t : ℕ) → Found' t → Found t) → TurnsOn Found old new → TurnsOn Found' old new
turns_as Found Found' old new to from w = record {
  bits = w.bits;
  each = adds_as (λ t. (t < length old) × Found' t) (λ t k. inr (k.0, to t k.1)) (λ t k. inr (k.0, from t k.1)) w.each;
}

pub turns_none : (Finds : ℕ → ℕ → Type 0) (row : List Bool) → TurnsOn (FoundBy Finds []) row row
turns_none Finds row = turns_nothing _ row (λ t lt found. absurd (contains_none found.thing found.among))

pub turns_then : (Found Found' : ℕ → Type 0) (old mid new : List Bool) → TurnsOn Found old mid → TurnsOn Found' mid new → TurnsOn (λ t. Found t ⊎ Found' t) old new
turns_then Found Found' old mid new w v = record {
  bits = v.bits ∙ w.bits;
  each = adds_as (λ t. (t < length old) × (Found t ⊎ Found' t))
      (λ t h. elim h [ inl k ↦ inr (k.0, inl k.1) | inr k ↦ let low = k.0 in inr (omega (arith, low, w.bits), inr k.1) ])
      (λ t k. let low = k.0 in elim k.1 [ inl f ↦ inr (inl (low, f)) | inr f ↦ inr (inr (omega (arith, low, w.bits), f)) ])
      (adds_then w.each v.each);
}

module _ (Finds : ℕ → ℕ → Type 0) (things : List ℕ) where
  -- and what the next one finds
  pub turns_more : (i : ℕ) (old mid new : List Bool) → i < length things → TurnsOn (FoundBy Finds (take i things)) old mid
      → TurnsOn (Finds (slice_index things i)) mid new → TurnsOn (FoundBy Finds (take (i + 1) things)) old new
  turns_more i old mid new lt w v = turns_as _ (FoundBy Finds (take (i + 1) things)) old new
      (λ t h. elim h [
        | inl f ↦ record { thing = f.thing; among = (taken f.thing).1 (inl f.among); finds = f.finds }
        | inr f ↦ record { thing = slice_index things i; among = (taken (slice_index things i)).1 (inr refl); finds = f }
      ])
      (λ t f. elim ((taken f.thing).0 f.among) [
        | inl among ↦ inl (record { thing = f.thing; among = among; finds = f.finds })
        | inr this ↦ inr (subst (λ n. Finds n t) this f.finds)
      ])
      (turns_then (FoundBy Finds (take i things)) (Finds (slice_index things i)) old mid new w v)
    where
      taken : (n : ℕ) → Contains (take (i + 1) things) n ↔ (Contains (take i things) n ⊎ (n ≡ slice_index things i))
      taken = contains_taken things i (slice_index things i) lt (get_or_default things i 0 (slice_index things i) lt)

  pub turns_all : (i : ℕ) (old new : List Bool) → length things ≤ i → TurnsOn (FoundBy Finds (take i things)) old new → TurnsOn (FoundBy Finds things) old new
  turns_all i old new le w = subst (λ l. TurnsOn (FoundBy Finds l) old new) (take_all i things le) w

-- the node's own bit, if there is one
pub turns_own : (row : List Bool) (node : ℕ) → node < length row → TurnsOn (λ t. node ≡ t) row (slice_set row node true)
turns_own row node lt = record {
  bits = length-set row node true;
  each = λ t. (
    (λ on. elim ((bit_put row node lt t).0 on) [ inl was ↦ inl was | inr this ↦ inr (omega (arith, this, lt), sym this) ]),
    (λ on. (bit_put row node lt t).1 (elim on [ inl was ↦ inl was | inr this ↦ inr (sym this.1) ])),
  );
}

pub turns_no_own : (row : List Bool) (node : ℕ) → length row ≤ node → TurnsOn (λ t. node ≡ t) row row
turns_no_own row node past = turns_nothing _ row (λ t lt this. absurd (omega (arith, past, lt, this)))

module _ (numbers : List ℕ) (rows : List (List Bool)) (node : ℕ) where
  -- the row of the node's component, if it has one
  pub turns_row : (row other : List Bool) → slice_index numbers node < length rows → other ≡ get_or rows (slice_index numbers node) []
      → length row ≡ length other → TurnsOn (IsInRow numbers rows node) row (union row other)
  turns_row row other lt is same = record {
    bits = length-union row other same;
    each = λ t. (
      (λ on. elim ((union_adds row other same t).0 on) [
        | inl was ↦ inl was
        | inr new ↦
            let low = within_from_get_or other t false (λ off. true≢false (sym new ∙ off)) in
            inr (omega (arith, low, same), record { earlier = lt; on = subst (λ l. IsOn l t) is new })
      ]),
      (λ on. (union_adds row other same t).1 (elim on [ inl was ↦ inl was | inr new ↦ inr (subst (λ l. IsOn l t) (sym is) new.1.on) ])),
    );
  }

  pub turns_no_row : (row : List Bool) → length rows ≤ slice_index numbers node → TurnsOn (IsInRow numbers rows node) row row
  turns_no_row row past = turns_nothing _ row (λ t lt h. absurd (omega (arith, past, h.earlier)))

-- a row of as many bits as the others, of which some were turned on
pub same_bits : (rows : List (List Bool)) (k : ℕ) (old now other : List Bool) → All (λ row. length row ≡ length old) rows → k < length rows → other ≡ get_or rows k []
    → length now ≡ length old → length now ≡ length other
same_bits rows k old now other all lt is long = long ∙ sym (ap length is ∙ all k [] lt)

pub listed_within : (lists : List (List ℕ)) (node : ℕ) (numbers nodes : List ℕ) → AreWithin lists → length numbers ≡ length lists → nodes ≡ get_or lists node []
    → All (λ to. to < length numbers) nodes
listed_within lists node numbers nodes within long is k d lt =
    subst (λ n. get_or nodes k d < n) (sym long) (within node (get_or nodes k d) (subst (λ l. Contains l (get_or nodes k d)) is (Contains-get_or nodes k d lt)))
