-- A map in which one value is written: of its entries, the one of the key that the test finds changes.
use Rattle.std.proofs.Common.{◌≡◌, ℕ, suc, ◌+◌, arith, Bool, true, false, cond, not, List, [], ◌∷◌, map, slice_get, Some, None, refl, sym, ap, ◌∙◌}
use Rattle.std.specs.List.{position_or_len, AllByRecursion, IsDistinct}
use Rattle.std.specs.Map.{lookup, set_value, keys_of, values_of}
use Rattle.std.proofs.lemmas.Map.Keys.{IsDistinct-head, IsDistinct-tail}
use Rattle.indexmap.specs.IndexMap.{set_value_at}

-- own: the keys that pass are those that are equal to one that passes
module _ {K V D : Type 0} (eq : K → K → Bool) (test : K → Bool) (own : (x y : K) → test x ≡ true → test y ≡ eq x y)
    (show : K × V → D) (change : D → D) (others : (e : K × V) → test e.0 ≡ false → change (show e) ≡ show e) where
  changed-others : (es : List (K × V)) → AllByRecursion (λ k. test k ≡ false) (keys_of es) → map change (map show es) ≡ map show es
  changed-others [] h = refl
  changed-others (e ∷ es) h = λ i. others e h.0 i ∷ changed-others es h.1 i

  -- no key passes
  pub changed-absent : (es : List (K × V)) → lookup test es ≡ None → map change (map show es) ≡ map show es
  changed-absent [] none = refl
  changed-absent (e ∷ es) none = go (test e.0) refl none (changed-absent es)
    where
      go : (b : Bool) → test e.0 ≡ b → cond b (Some e.1) (lookup test es) ≡ None → (lookup test es ≡ None → map change (map show es) ≡ map show es)
          → map change (map show (e ∷ es)) ≡ map show (e ∷ es)
      go true is none rest = cc
      go false is none rest = λ i. others e is i ∷ rest none i

  -- keys differ from each other, so only the one value is written
  pub changed-set_value : (es : List (K × V)) (old new : V) → IsDistinct eq (keys_of es) → lookup test es ≡ Some old
      → ((k : K) → test k ≡ true → show (k, new) ≡ change (show (k, old))) → map show (set_value test es new) ≡ map change (map show es)
  changed-set_value [] old new distinct found changed = refl
  changed-set_value (e ∷ es) old new distinct found changed =
      go (test e.0) refl found (λ f. changed-set_value es old new (IsDistinct-tail eq e.0 (keys_of es) distinct) f changed)
    where
      apart : (ks : List K) → test e.0 ≡ true → AllByRecursion (λ y. eq e.0 y ≡ false) ks → AllByRecursion (λ k. test k ≡ false) ks
      apart [] is h = h
      apart (k ∷ ks) is h = (own e.0 k is ∙ h.0, apart ks is h.1)

      go : (b : Bool) → test e.0 ≡ b → cond b (Some e.1) (lookup test es) ≡ Some old
          → (lookup test es ≡ Some old → map show (set_value test es new) ≡ map change (map show es))
          → map show (cond b ((e.0, new) ∷ es) (e ∷ set_value test es new)) ≡ map change (map show (e ∷ es))
      go true is same rest =
          let value : e.1 ≡ old = cc in
          λ i. (changed e.0 is ∙ ap (λ v. change (show (e.0, v))) (sym value)) i
          ∷ sym (changed-others es (apart (keys_of es) is (IsDistinct-head eq e.0 (keys_of es) distinct))) i
      go false is same rest = λ i. sym (others e is) i ∷ rest same i

later : (n : ℕ) → suc n ≡ 1 + n
later n = omega arith

-- The index of the first key that passes, which a look-up finds.
module _ {K V : Type 0} (test : K → Bool) where
  pub lookup-index : (es : List (K × V)) → lookup test es ≡ slice_get (values_of es) (position_or_len test (keys_of es))
  lookup-index [] = refl
  lookup-index (e ∷ es) = go (test e.0) (position_or_len test (keys_of es)) (lookup-index es)
    where
      go : (b : Bool) (n : ℕ) → lookup test es ≡ slice_get (values_of es) n
          → cond b (Some e.1) (lookup test es) ≡ slice_get (e.1 ∷ values_of es) (cond (not b) (1 + n) 0)
      go true n rest = refl
      go false n rest = rest ∙ ap (slice_get (e.1 ∷ values_of es)) (later n)

  -- a value that is written there is written under its key
  pub set_value-index : (es : List (K × V)) (w : V) → set_value_at es (position_or_len test (keys_of es)) w ≡ set_value test es w
  set_value-index [] w = refl
  set_value-index (e ∷ es) w = go (test e.0) (position_or_len test (keys_of es)) (set_value-index es w)
    where
      go : (b : Bool) (n : ℕ) → set_value_at es n w ≡ set_value test es w
          → set_value_at (e ∷ es) (cond (not b) (1 + n) 0) w ≡ cond b ((e.0, w) ∷ es) (e ∷ set_value test es w)
      go true n rest = refl
      go false n rest = ap (λ i. set_value_at (e ∷ es) i w) (sym (later n)) ∙ ap (λ fs. e ∷ fs) rest
