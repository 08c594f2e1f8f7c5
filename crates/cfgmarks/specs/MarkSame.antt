-- When `==` of two maps of marks holds, given `==` of their keys and of their values.
use Rattle.std.specs.Prelude.{◌≡◌, ◌↔◌, Bool, true, ◌&&◌, ◌==◌, IsTrue, Option, Some, None, List}
use Rattle.std.proofs.Common.{refl, sym}
use Rattle.std.proofs.lemmas.Bool.{true≢false}
use Rattle.std.specs.Option.{option_eq}
use Rattle.std.specs.Cmp.{IsPartialEquivalence, IsEquivalence, nat_eq_equiv, partial_equiv_from_equiv, and_per, and_equiv, on_per, on_equiv}
use Rattle.std.specs.Cmp.Lexicographic.{pointwise, lists_per, lists_equiv, options_equiv}
use Rattle.cfgmarks.specs.MarkWord.{set_behavior_word}
use Rattle.cfgmarks.specs.declared.markmap.marked.Marked.{Marked}
use Rattle.cfgmarks.specs.Marks.{Marks, mark_word}

-- a value is equal only to itself
abbrev pub IsIdentity : {A : Type 0} → (A → A → Bool) → Type 0
IsIdentity {A} eq = (x y : A) → IsTrue (eq x y) ↔ (x ≡ y)

-- the marks are the same, and the values are equal
abbrev pub same_marked : {V : Type 0} → (V → V → Bool) → Marked V → Marked V → Bool
same_marked eq x y = (mark_word x == mark_word y) && option_eq eq x.value y.value

module _ {K V : Type 0} (key_eq : K → K → Bool) (value_eq : V → V → Bool) where
  -- keys and their marks are equal pairwise
  abbrev pub same_entries : List (K × Marked V) → List (K × Marked V) → Bool
  same_entries = pointwise (λ e f. key_eq e.0 f.0 && same_marked value_eq e.1 f.1)

  -- the entries are equal, and an unset behaviour means the same
  abbrev pub same_marks : Marks K V → Marks K V → Bool
  same_marks m n = same_entries m.entries n.entries && (set_behavior_word (Some m.behavior) == set_behavior_word (Some n.behavior))

-- both are partial equivalences, and equivalences, if those of the keys and the values are
module _ {V : Type 0} {eq : V → V → Bool} where
  options_symm : IsPartialEquivalence eq → (o p : Option V) → option_eq eq o p ≡ option_eq eq p o
  options_symm per None None = refl
  options_symm per None (Some y) = refl
  options_symm per (Some x) None = refl
  options_symm per (Some x) (Some y) = per.symm x y

  options_trans : IsPartialEquivalence eq → (o p q : Option V) → option_eq eq o p ≡ true → option_eq eq p q ≡ true → option_eq eq o q ≡ true
  options_trans per None None q h k = k
  options_trans per None (Some y) q h k = absurd (true≢false (sym h))
  options_trans per (Some x) None q h k = absurd (true≢false (sym h))
  options_trans per (Some x) (Some y) None h k = k
  options_trans per (Some x) (Some y) (Some z) h k = per.trans x y z h k

  options_per : IsPartialEquivalence eq → IsPartialEquivalence (option_eq eq)
  options_per per = record { symm = options_symm per; trans = options_trans per }

  pub same_marked_per : IsPartialEquivalence eq → IsPartialEquivalence (same_marked eq)
  same_marked_per per = and_per (on_per mark_word (partial_equiv_from_equiv nat_eq_equiv)) (on_per (λ x. x.value) (options_per per))

  pub same_marked_equiv : IsEquivalence eq → IsEquivalence (same_marked eq)
  same_marked_equiv equiv = and_equiv (on_equiv mark_word nat_eq_equiv) (on_equiv (λ x. x.value) (options_equiv equiv))

module _ {K V : Type 0} {key_eq : K → K → Bool} {value_eq : V → V → Bool} where
  pub same_marks_per : IsPartialEquivalence key_eq → IsPartialEquivalence value_eq → IsPartialEquivalence (same_marks key_eq value_eq)
  same_marks_per keys values =
      and_per (on_per (λ m. m.entries) (lists_per (and_per (on_per (λ e. e.0) keys) (on_per (λ e. e.1) (same_marked_per values)))))
      (on_per (λ m. set_behavior_word (Some m.behavior)) (partial_equiv_from_equiv nat_eq_equiv))

  pub same_marks_equiv : IsEquivalence key_eq → IsEquivalence value_eq → IsEquivalence (same_marks key_eq value_eq)
  same_marks_equiv keys values =
      and_equiv (on_equiv (λ m. m.entries) (lists_equiv (and_equiv (on_equiv (λ e. e.0) keys) (on_equiv (λ e. e.1) (same_marked_equiv values)))))
      (on_equiv (λ m. set_behavior_word (Some m.behavior)) nat_eq_equiv)
