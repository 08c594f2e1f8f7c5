-- When `==` of two values of a section holds, given `==` of their locations: every field is compared.
use Rattle.std.specs.Prelude.{◌≡◌, ◌↔◌, Bool, true, false, ◌&&◌, ◌==◌, IsTrue, List, [], ◌∷◌, ◌++◌}
use Rattle.std.proofs.Common.{refl, sym}
use Rattle.std.proofs.lemmas.Bool.{and_from, and_parts, true≢false}
use Rattle.std.specs.Cmp.{IsPartialEquivalence, IsEquivalence, equiv, nat_eq_equiv, partial_equiv_from_equiv, and_per, on_per}
use Rattle.std.specs.Cmp.Lexicographic.{pointwise, lists_per, nat_list_eq_equiv}
use Rattle.std.specs.Option.{option_to_list}
use Rattle.std.specs.Str.{bytes_eq}
use Rattle.cfgkinds.specs.Values.{Located, ShownNamespaced, ShownSetting, ShownSettings, ShownValue, ShownHeaderValue, Flag, Given, Unitary, Constructor, Number, Text, Array, no_settings, setting}

-- a location is equal only to itself
abbrev pub IsIdentity : {T : Type 0} → (T → T → Bool) → Type 0
IsIdentity {T} eq = (p q : T) → IsTrue (eq p q) ↔ (p ≡ q)

-- the names, the namespace first
abbrev pub names : {T : Type 0} → ShownNamespaced T → List (Located T)
names name = option_to_list name.namespace ++ name.member ∷ []

module _ {T : Type 0} (eq : T → T → Bool) where
  abbrev pub same_located : Located T → Located T → Bool
  same_located a b = bytes_eq a.0 b.0 && eq a.1 b.1

  abbrev pub same_namespaced : ShownNamespaced T → ShownNamespaced T → Bool
  same_namespaced a b = pointwise same_located (names a) (names b)

  abbrev mutual
    pub same_setting : ShownSetting T → ShownSetting T → Bool
    same_setting (Unitary a) (Unitary b) = same_namespaced a b
    same_setting (Constructor ctor arg) (Constructor other by) = same_namespaced ctor other && same_namespaced arg by
    same_setting (Number m p) (Number n q) = (m == n) && eq p q
    same_setting (Text s p) (Text t q) = bytes_eq s t && eq p q
    same_setting (Array xs p q) (Array ys r s) = same_settings xs ys && eq p r && eq q s
    same_setting _ _ = false

    pub same_settings : ShownSettings T → ShownSettings T → Bool
    same_settings no_settings no_settings = true
    same_settings (setting x xs) (setting y ys) = same_setting x y && same_settings xs ys
    same_settings _ _ = false

  abbrev pub same_flag : Bool → Bool → Bool
  same_flag true true = true
  same_flag false false = true
  same_flag _ _ = false

  abbrev pub same_value : ShownValue T → ShownValue T → Bool
  same_value (Flag on p) (Flag off q) = same_flag on off && eq p q
  same_value (Given s) (Given t) = same_setting s t
  same_value _ _ = false

  abbrev pub same_header_value : ShownHeaderValue T → ShownHeaderValue T → Bool
  same_header_value a b = eq a.location b.location && same_value a.value b.value

-- a partial equivalence if `==` of the locations is one
module _ {T : Type 0} {eq : T → T → Bool} where
  located_per : IsPartialEquivalence eq → IsPartialEquivalence (same_located eq)
  located_per per = and_per (on_per (λ n. n.0) (partial_equiv_from_equiv nat_list_eq_equiv)) (on_per (λ n. n.1) per)

  namespaced_per : IsPartialEquivalence eq → IsPartialEquivalence (same_namespaced eq)
  namespaced_per per = on_per names (lists_per (located_per per))

  mutual
    setting_symm : IsPartialEquivalence eq → (a b : ShownSetting T) → same_setting eq a b ≡ same_setting eq b a
    setting_symm per (Unitary a) (Unitary b) = (namespaced_per per).symm a b
    setting_symm per (Constructor ctor arg) (Constructor other by) = λ i. (namespaced_per per).symm ctor other i && (namespaced_per per).symm arg by i
    setting_symm per (Number m p) (Number n q) = λ i. nat_eq_equiv.symm m n i && per.symm p q i
    setting_symm per (Text s p) (Text t q) = (located_per per).symm (s, p) (t, q)
    setting_symm per (Array xs p q) (Array ys r s) = λ i. settings_symm per xs ys i && per.symm p r i && per.symm q s i
    setting_symm per a b = refl

    settings_symm : IsPartialEquivalence eq → (xs ys : ShownSettings T) → same_settings eq xs ys ≡ same_settings eq ys xs
    settings_symm per no_settings no_settings = refl
    settings_symm per (setting x xs) (setting y ys) = λ i. setting_symm per x y i && settings_symm per xs ys i
    settings_symm per xs ys = refl

  mutual
    setting_trans : IsPartialEquivalence eq → (a b c : ShownSetting T) → same_setting eq a b ≡ true → same_setting eq b c ≡ true → same_setting eq a c ≡ true
    setting_trans per (Unitary a) (Unitary b) (Unitary c) h k = (namespaced_per per).trans a b c h k
    setting_trans per (Constructor f a) (Constructor g b) (Constructor e c) h k =
        let left = and_parts (same_namespaced eq f g) (same_namespaced eq a b) h in
        let right = and_parts (same_namespaced eq g e) (same_namespaced eq b c) k in
        and_from _ _ ((namespaced_per per).trans f g e left.0 right.0) ((namespaced_per per).trans a b c left.1 right.1)
    setting_trans per (Number m p) (Number n q) (Number o r) h k =
        let left = and_parts (m == n) (eq p q) h in
        let right = and_parts (n == o) (eq q r) k in
        and_from _ _ ((partial_equiv_from_equiv nat_eq_equiv).trans m n o left.0 right.0) (per.trans p q r left.1 right.1)
    setting_trans per (Text s p) (Text t q) (Text u r) h k = (located_per per).trans (s, p) (t, q) (u, r) h k
    setting_trans per (Array xs p q) (Array ys r s) (Array zs t u) h k =
        let left = and_parts (same_settings eq xs ys && eq p r) (eq q s) h in
        let right = and_parts (same_settings eq ys zs && eq r t) (eq s u) k in
        let inside = and_parts (same_settings eq xs ys) (eq p r) left.0 in
        let within = and_parts (same_settings eq ys zs) (eq r t) right.0 in
        and_from _ _ (and_from _ _ (settings_trans per xs ys zs inside.0 within.0) (per.trans p r t inside.1 within.1)) (per.trans q s u left.1 right.1)
    setting_trans per (Unitary a) (Unitary b) c h k = absurd (true≢false (sym k))
    setting_trans per (Constructor f a) (Constructor g b) c h k = absurd (true≢false (sym k))
    setting_trans per (Number m p) (Number n q) c h k = absurd (true≢false (sym k))
    setting_trans per (Text s p) (Text t q) c h k = absurd (true≢false (sym k))
    setting_trans per (Array xs p q) (Array ys r s) c h k = absurd (true≢false (sym k))
    setting_trans per a b c h k = absurd (true≢false (sym h))

    settings_trans : IsPartialEquivalence eq → (xs ys zs : ShownSettings T) → same_settings eq xs ys ≡ true → same_settings eq ys zs ≡ true → same_settings eq xs zs ≡ true
    settings_trans per no_settings no_settings zs h k = k
    settings_trans per (setting x xs) (setting y ys) (setting z zs) h k =
        let left = and_parts (same_setting eq x y) (same_settings eq xs ys) h in
        let right = and_parts (same_setting eq y z) (same_settings eq ys zs) k in
        and_from _ _ (setting_trans per x y z left.0 right.0) (settings_trans per xs ys zs left.1 right.1)
    settings_trans per (setting x xs) (setting y ys) no_settings h k = absurd (true≢false (sym k))
    settings_trans per xs ys zs h k = absurd (true≢false (sym h))

  pub same_setting_per : IsPartialEquivalence eq → IsPartialEquivalence (same_setting eq)
  same_setting_per per = record { symm = setting_symm per; trans = setting_trans per }

-- and an equivalence if `==` of the locations is one
module _ {T : Type 0} (eq : T → T → Bool) (itself : (location : T) → eq location location ≡ true) where
  located_itself : (name : Located T) → same_located eq name name ≡ true
  located_itself name = and_from _ _ (nat_list_eq_equiv.refl name.0) (itself name.1)

  names_itself : (given : List (Located T)) → pointwise (same_located eq) given given ≡ true
  names_itself [] = refl
  names_itself (name ∷ given) = and_from _ _ (located_itself name) (names_itself given)

  mutual
    pub setting_itself : (s : ShownSetting T) → same_setting eq s s ≡ true
    setting_itself (Unitary a) = names_itself (names a)
    setting_itself (Constructor f a) = and_from _ _ (names_itself (names f)) (names_itself (names a))
    setting_itself (Number n p) = and_from _ _ (nat_eq_equiv.refl n) (itself p)
    setting_itself (Text s p) = located_itself (s, p)
    setting_itself (Array xs p q) = and_from _ _ (and_from _ _ (settings_itself xs) (itself p)) (itself q)

    pub settings_itself : (xs : ShownSettings T) → same_settings eq xs xs ≡ true
    settings_itself no_settings = refl
    settings_itself (setting x xs) = and_from _ _ (setting_itself x) (settings_itself xs)

pub same_setting_equiv : {T : Type 0} {eq : T → T → Bool} → IsEquivalence eq → IsEquivalence (same_setting eq)
same_setting_equiv {eq = eq} e = equiv (same_setting_per (partial_equiv_from_equiv e)) (setting_itself eq e.refl)
