-- If `==` of the keys and of the values is identity, so is `==` of two maps of marks.
use Rattle.std.proofs.Common.{◌≡◌, ℕ, ◌+◌, ◌*◌, Bool, true, false, if◌then◌else◌, ◌==◌, ◌&&◌, Option, Some, None, refl, ap, arith}
use Rattle.std.proofs.lemmas.Bool.Decides.{Decides-and, Decides-eqb}
use Rattle.std.specs.Bool.{Decides}
use Rattle.std.specs.Option.{option_eq}
use Rattle.std.specs.Cmp.Lexicographic.{pointwise_decides}
use Rattle.cfgmarks.specs.declared.markmap.behavior.MergeBehavior.{MergeBehavior}
use Rattle.cfgmarks.specs.declared.markmap.behavior.MergeBehavior.TheVariants.{Theirs, Ours, MutuallyExclusive}
use Rattle.cfgmarks.specs.MarkWord.{set_behavior_word}
use Rattle.cfgmarks.specs.declared.markmap.marked.Marked.{Marked}
use Rattle.cfgmarks.specs.Marks.{Marks, mark_word}
use Rattle.cfgmarks.specs.MarkSame.{IsIdentity, same_marked, same_marks}

-- a fact that is true exactly if another one is, decided by the same test
decides_too : {P Q : Type 0} (b : Bool) → Decides b P → (P → Q) → (Q → P) → Decides b Q
decides_too b decides there back = (λ h. there (decides.0 h), λ q. decides.1 (back q))

-- the number of a behaviour, without the bits of the two marks
quarter : Option MergeBehavior → ℕ
quarter None = 0
quarter (Some Theirs) = 65
quarter (Some Ours) = 129
quarter (Some MutuallyExclusive) = 257

set_behavior_word-quarter : (b : Option MergeBehavior) → set_behavior_word b ≡ 4 * quarter b
unfolding quarter
set_behavior_word-quarter None = refl
set_behavior_word-quarter (Some Theirs) = refl
set_behavior_word-quarter (Some Ours) = refl
set_behavior_word-quarter (Some MutuallyExclusive) = refl

quarter_once : (b c : Option MergeBehavior) → quarter b ≡ quarter c → b ≡ c
unfolding quarter
quarter_once None None h = refl
quarter_once None (Some Theirs) h = absurd (omega arith)
quarter_once None (Some Ours) h = absurd (omega arith)
quarter_once None (Some MutuallyExclusive) h = absurd (omega arith)
quarter_once (Some Theirs) None h = absurd (omega arith)
quarter_once (Some Theirs) (Some Theirs) h = refl
quarter_once (Some Theirs) (Some Ours) h = absurd (omega arith)
quarter_once (Some Theirs) (Some MutuallyExclusive) h = absurd (omega arith)
quarter_once (Some Ours) None h = absurd (omega arith)
quarter_once (Some Ours) (Some Theirs) h = absurd (omega arith)
quarter_once (Some Ours) (Some Ours) h = refl
quarter_once (Some Ours) (Some MutuallyExclusive) h = absurd (omega arith)
quarter_once (Some MutuallyExclusive) None h = absurd (omega arith)
quarter_once (Some MutuallyExclusive) (Some Theirs) h = absurd (omega arith)
quarter_once (Some MutuallyExclusive) (Some Ours) h = absurd (omega arith)
quarter_once (Some MutuallyExclusive) (Some MutuallyExclusive) h = refl

pub behavior_once : (b c : Option MergeBehavior) → set_behavior_word b ≡ set_behavior_word c → b ≡ c
behavior_once b c h = quarter_once b c (omega (arith, set_behavior_word-quarter b, set_behavior_word-quarter c))

-- the bit, and the bits above it
bit_once : (b c : Bool) (m n : ℕ) → (if b then 1 else 0) + 2 * m ≡ (if c then 1 else 0) + 2 * n → (b ≡ c) × (m ≡ n)
bit_once true true m n h = (refl, omega arith)
bit_once true false m n h = absurd (omega arith)
bit_once false true m n h = absurd (omega arith)
bit_once false false m n h = (refl, omega arith)

doubled : (b : Bool) → (if b then 2 else 0) ≡ 2 * (if b then 1 else 0)
doubled true = refl
doubled false = refl

module _ {V : Type 0} where
  mark_word_once : (x y : Marked V) → mark_word x ≡ mark_word y → (x.used ≡ y.used) × (x.required ≡ y.required) × (x.behavior ≡ y.behavior)
  mark_word_once x y h =
      let low = bit_once x.used y.used ((if x.required then 1 else 0) + 2 * quarter x.behavior) ((if y.required then 1 else 0) + 2 * quarter y.behavior)
      (omega (arith, doubled x.required, doubled y.required, set_behavior_word-quarter x.behavior, set_behavior_word-quarter y.behavior)) in
      let high = bit_once x.required y.required (quarter x.behavior) (quarter y.behavior) low.1 in
      (low.0, high.0, quarter_once x.behavior y.behavior high.1)

  options_decide : (eq : V → V → Bool) → IsIdentity eq → (o p : Option V) → Decides (option_eq eq o p) (o ≡ p)
  options_decide eq identity None None = (λ h. refl, λ h. refl)
  options_decide eq identity None (Some y) = (λ h. absurd (cc), λ h. absurd (cc))
  options_decide eq identity (Some x) None = (λ h. absurd (cc), λ h. absurd (cc))
  options_decide eq identity (Some x) (Some y) = (λ h. ap Some ((identity x y).0 h), λ h. (identity x y).1 (cc))

  pub same_marked_decides : (eq : V → V → Bool) → IsIdentity eq → (x y : Marked V) → Decides (same_marked eq x y) (x ≡ y)
  same_marked_decides eq identity x y =
      decides_too _ (Decides-and (mark_word x == mark_word y) (option_eq eq x.value y.value) (Decides-eqb (mark_word x) (mark_word y)) (options_decide eq identity x.value y.value))
      (λ h. let parts = mark_word_once x y h.0 in λ i. record { used = parts.0 i; required = parts.1 i; behavior = parts.2 i; value = h.1 i })
      (λ e. (ap mark_word e, ap (λ x. x.value) e))

module _ {K V : Type 0} (key_eq : K → K → Bool) (value_eq : V → V → Bool) (keys : IsIdentity key_eq) (values : IsIdentity value_eq) where
  entries_decide : (e f : K × Marked V) → Decides (key_eq e.0 f.0 && same_marked value_eq e.1 f.1) (e ≡ f)
  entries_decide e f =
      decides_too _ (Decides-and (key_eq e.0 f.0) (same_marked value_eq e.1 f.1) (keys e.0 f.0) (same_marked_decides value_eq values e.1 f.1))
      (λ h. λ i. (h.0 i, h.1 i)) (λ h. (ap (λ e. e.0) h, ap (λ e. e.1) h))

  pub same_marks_decides : (m n : Marks K V) → Decides (same_marks key_eq value_eq m n) (m ≡ n)
  same_marks_decides m n =
      decides_too _ (Decides-and _ (set_behavior_word (Some m.behavior) == set_behavior_word (Some n.behavior)) (pointwise_decides entries_decide m.entries n.entries)
      (Decides-eqb (set_behavior_word (Some m.behavior)) (set_behavior_word (Some n.behavior))))
      (λ h. let behavior : m.behavior ≡ n.behavior = let some : Some m.behavior ≡ Some n.behavior = behavior_once (Some m.behavior) (Some n.behavior) h.1 in cc in
      λ i. record { entries = h.0 i; behavior = behavior i })
      (λ e. (ap (λ m. m.entries) e, ap (λ m. set_behavior_word (Some m.behavior)) e))
