-- `==` of two values of a section, if `==` of their locations distinguishes two exactly if they differ.
use Rattle.std.proofs.Common.{◌≡◌, ℕ, suc, ◌+◌, ◌<◌, get_or, ◌↔◌, ◌∙◌, refl, ap, sym, subst, IsTrue, Bool, true, false, ◌&&◌, ◌==◌, List, [], ◌∷◌, length, drop, String, Global, string_eq, option_map, Option, Some, None}
use Rattle.std.proofs.lemmas.Bool.{and_parts, eqb-true, false≢true}
use Rattle.std.proofs.Math.Bool.{and-true, and-false}
use Rattle.std.specs.Prelude.{◌≢◌}
use Rattle.std.specs.Option.{option_eq}
use Rattle.std.specs.Str.{bytes_eq}
use Rattle.std.proofs.Math.Numerals.{add-one}
use Rattle.std.proofs.Math.Seq.{drop-cons}
use lib.Pointwise.{bytes_decides}
use Rattle.cfgkinds.specs.Values.{Located, ShownNamespaced, ShownSetting, ShownSettings, Unitary, Constructor, Number, Text, Array, no_settings, setting}
use Rattle.cfgkinds.specs.Values.{located_view, setting_view, settings_view}
use Rattle.cfgkinds.specs.declared.value.Setting.{Setting}
use Rattle.cfgkinds.specs.SameValues.{IsIdentity, same_located, same_namespaced, same_setting, same_settings, setting_itself}

-- both names are compared
module _ {T : Type 0} (eq : T → T → Bool) where
  abbrev both_named : Option (Located T) → Located T → ShownNamespaced T
  both_named given member = record { namespace = given; member = member }

  both_compared : (given other : Option (Located T)) (m n : Located T) → (option_eq (same_located eq) given other && same_located eq m n) ≡ same_namespaced eq (both_named given m) (both_named other n)
  both_compared None None m n = sym (and-true (same_located eq m n))
  both_compared None (Some other) m n = sym (and-false (same_located eq m other))
  both_compared (Some given) None m n = sym (and-false (same_located eq given n))
  both_compared (Some given) (Some other) m n = λ i. same_located eq given other && sym (and-true (same_located eq m n)) i

  -- the namespaces, as the code represents them
  pub same_namespaces : (given other : Option (String Global × T))
      → option_eq (λ x y. string_eq x.0 y.0 && eq x.1 y.1) given other ≡ option_eq (same_located eq) (option_map located_view given) (option_map located_view other)
  same_namespaces None None = refl
  same_namespaces None (Some other) = refl
  same_namespaces (Some given) None = refl
  same_namespaces (Some given) (Some other) = refl

  pub same_both : (a b : ShownNamespaced T) → (option_eq (same_located eq) a.namespace b.namespace && same_located eq a.member b.member) ≡ same_namespaced eq a b
  same_both a b = both_compared a.namespace b.namespace a.member b.member

module _ {T : Type 0} (eq : T → T → Bool) (is : IsIdentity eq) where
  located-eq : (a b : Located T) → same_located eq a b ≡ true → a ≡ b
  located-eq a b h =
      let both = and_parts (bytes_eq a.0 b.0) (eq a.1 b.1) h in
      λ i. ((bytes_decides a.0 b.0).0 both.0 i, (is a.1 b.1).0 both.1 i)

  named-eq : (given other : Option (Located T)) (m n : Located T) → (option_eq (same_located eq) given other && same_located eq m n) ≡ true
      → both_named eq given m ≡ both_named eq other n
  named-eq None None m n h = ap (both_named eq None) (located-eq m n h)
  named-eq None (Some other) m n h = absurd (false≢true h)
  named-eq (Some given) None m n h = absurd (false≢true h)
  named-eq (Some given) (Some other) m n h =
      let both = and_parts (same_located eq given other) (same_located eq m n) h in
      λ i. both_named eq (Some (located-eq given other both.0 i)) (located-eq m n both.1 i)

  namespaced-eq : (a b : ShownNamespaced T) → same_namespaced eq a b ≡ true → a ≡ b
  namespaced-eq a b h = named-eq a.namespace b.namespace a.member b.member (same_both eq a b ∙ h)

  mutual
    setting-eq : (a b : ShownSetting T) → same_setting eq a b ≡ true → a ≡ b
    setting-eq (Unitary a) (Unitary b) h = ap Unitary (namespaced-eq a b h)
    setting-eq (Constructor f a) (Constructor g b) h =
        let both = and_parts (same_namespaced eq f g) (same_namespaced eq a b) h in
        λ i. Constructor (namespaced-eq f g both.0 i) (namespaced-eq a b both.1 i)
    setting-eq (Number m p) (Number n q) h =
        let both = and_parts (m == n) (eq p q) h in
        λ i. Number (eqb-true m n both.0 i) ((is p q).0 both.1 i)
    setting-eq (Text s p) (Text t q) h =
        let both = and_parts (bytes_eq s t) (eq p q) h in
        λ i. Text ((bytes_decides s t).0 both.0 i) ((is p q).0 both.1 i)
    setting-eq (Array xs p q) (Array ys r s) h =
        let both = and_parts (same_settings eq xs ys && eq p r) (eq q s) h in
        let inside = and_parts (same_settings eq xs ys) (eq p r) both.0 in
        λ i. Array (settings-eq xs ys inside.0 i) ((is p r).0 inside.1 i) ((is q s).0 both.1 i)
    setting-eq a b h = absurd (false≢true h)

    settings-eq : (xs ys : ShownSettings T) → same_settings eq xs ys ≡ true → xs ≡ ys
    settings-eq no_settings no_settings h = refl
    settings-eq (setting x xs) (setting y ys) h =
        let both = and_parts (same_setting eq x y) (same_settings eq xs ys) h in
        λ i. setting (setting-eq x y both.0 i) (settings-eq xs ys both.1 i)
    settings-eq xs ys h = absurd (false≢true h)

  pub same_setting_iff : (a b : ShownSetting T) → IsTrue (same_setting eq a b) ↔ (a ≡ b)
  same_setting_iff a b = (
    setting-eq a b,
    λ e. subst (λ s. same_setting eq a s ≡ true) e (setting_itself eq (λ location. (is location location).1 refl) a),
  )

-- lists of settings of different lengths differ
pub other_lengths : {T : Type 0} (eq : T → T → Bool) (xs ys : List (Setting T)) → length xs ≢ length ys → same_settings eq (settings_view xs) (settings_view ys) ≡ false
other_lengths eq [] [] other = absurd (other refl)
other_lengths eq [] (y ∷ ys) other = refl
other_lengths eq (x ∷ xs) [] other = refl
other_lengths eq (x ∷ xs) (y ∷ ys) other =
    ap (λ b. same_setting eq (setting_view x) (setting_view y) && b) (other_lengths eq xs ys (λ e. other (ap suc e))) ∙ and-false (same_setting eq (setting_view x) (setting_view y))

-- one more setting in each
pub one_left : {T : Type 0} (eq : T → T → Bool) (xs ys : List (Setting T)) (i : ℕ) (x y : Setting T) → i < length xs → i < length ys → x ≡ get_or xs i x → y ≡ get_or ys i y
    → same_settings eq (settings_view (drop i xs)) (settings_view (drop i ys))
    ≡ (same_setting eq (setting_view x) (setting_view y) && same_settings eq (settings_view (drop (i + 1) xs)) (settings_view (drop (i + 1) ys)))
one_left eq xs ys i x y within inside there here =
    let left : drop i xs ≡ x ∷ drop (i + 1) xs = drop-cons xs i x within ∙ (λ j. sym there j ∷ drop (sym (add-one i) j) xs) in
    let right : drop i ys ≡ y ∷ drop (i + 1) ys = drop-cons ys i y inside ∙ (λ j. sym here j ∷ drop (sym (add-one i) j) ys) in
    λ j. same_settings eq (settings_view (left j)) (settings_view (right j))
