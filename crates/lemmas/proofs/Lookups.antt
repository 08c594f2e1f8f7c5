-- What a look-up among entries finds.
use Rattle.std.proofs.Common.{◌≡◌, Bool, true, false, cond, List, [], ◌∷◌, ◌++◌, map, Some, None, option_map, is_some, refl, ap, ◌∙◌}
use Rattle.std.specs.List.{list_any, AllByRecursion}
use Rattle.std.specs.Map.{keys_of, lookup, lookup_key}
use Rattle.std.proofs.lemmas.Map.Made.{is_some-lookup}
use Rattle.lemmas.proofs.Tests.{list_any-map}

pub lookup-map : {K L X Y : Type 0} (p : L → Bool) (f : K → L) (g : X → Y) (es : List (K × X)) → lookup p (map (λ e. (f e.0, g e.1)) es) ≡ option_map g (lookup (λ k. p (f k)) es)
lookup-map p f g [] = refl
lookup-map {K} {L} {X} {Y} p f g (e ∷ es) = go (p (f e.0)) (lookup-map p f g es)
  where
    go : (b : Bool) → lookup p (map (λ e. (f e.0, g e.1)) es) ≡ option_map g (lookup (λ k. p (f k)) es)
        → cond b (Some (g e.1)) (lookup p (map (λ e. (f e.0, g e.1)) es)) ≡ option_map g (cond b (Some e.1) (lookup (λ k. p (f k)) es))
    go true rest = refl
    go false rest = rest

-- what holds of all keys holds of the one at an index
pub key_at : {K X : Type 0} (P : K → Type 0) (es fs : List (K × X)) (e : K × X) → AllByRecursion P (keys_of (es ++ e ∷ fs)) → P e.0
key_at P [] fs e all = all.0
key_at P (d ∷ es) fs e all = key_at P es fs e all.1

module _ {K X : Type 0} (test : K → Bool) where
  -- a key is found exactly if an entry's key passes the test
  pub found-lookup : (es : List (K × X)) → is_some (lookup test es) ≡ list_any (λ e. test e.0) es
  found-lookup es = is_some-lookup test es ∙ list_any-map test (λ (e : K × X). e.0) es

  pub lookup_after_none : (es fs : List (K × X)) → lookup test es ≡ None → lookup test (es ++ fs) ≡ lookup test fs
  lookup_after_none [] fs none = refl
  lookup_after_none (e ∷ es) fs none =
      elim (test e.0) as (λ b. cond b (Some e.1) (lookup test es) ≡ None → cond b (Some e.1) (lookup test (es ++ fs)) ≡ lookup test fs) [
        | true ↦ λ none. cc
        | false ↦ λ none. lookup_after_none es fs none
      ] none

  pub lookup_before_none : (es fs : List (K × X)) → lookup test fs ≡ None → lookup test (es ++ fs) ≡ lookup test es
  lookup_before_none [] fs none = none
  lookup_before_none (e ∷ es) fs none = ap (cond (test e.0) (Some e.1)) (lookup_before_none es fs none)

  -- if an entry is found, its key is
  pub found-lookup_key : (es : List (K × X)) → is_some (lookup_key test es) ≡ is_some (lookup test es)
  found-lookup_key [] = refl
  found-lookup_key (e ∷ es) =
      elim (test e.0) as (λ b. is_some (cond b (Some e.0) (lookup_key test es)) ≡ is_some (cond b (Some e.1) (lookup test es))) [
        | true ↦ refl
        | false ↦ found-lookup_key es
      ]

  -- tests that agree find the same key
  pub lookup_key_congr : (other : K → Bool) (es : List (K × X)) → ((k : K) → test k ≡ other k) → lookup_key test es ≡ lookup_key other es
  lookup_key_congr other [] same = refl
  lookup_key_congr other (e ∷ es) same = rw (same e.0, lookup_key_congr other es same)

  pub lookup_key_by_keys : {Y : Type 0} (es : List (K × X)) (fs : List (K × Y)) → keys_of es ≡ keys_of fs → lookup_key test es ≡ lookup_key test fs
  lookup_key_by_keys [] [] same = refl
  lookup_key_by_keys [] (f ∷ fs) same = cc
  lookup_key_by_keys (e ∷ es) [] same = cc
  lookup_key_by_keys (e ∷ es) (f ∷ fs) same =
      let here : e.0 ≡ f.0 = cc in
      let there : keys_of es ≡ keys_of fs = cc in
      rw (here, lookup_key_by_keys es fs there)
