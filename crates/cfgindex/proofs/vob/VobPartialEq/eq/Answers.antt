use Rattle.std.proofs.Common.{◌≡◌, ◌↔◌, ℕ, Bool, List, IsTrue, length, refl, sym, ap, ◌∙◌, subst}
use Rattle.std.specs.Bool.{beq}
use Rattle.std.specs.Cmp.{booleans_Decides}
use Rattle.std.specs.Cmp.Lexicographic.{pointwise}
use Rattle.std.proofs.lemmas.Slice.Eq.{slice_eq-Decides}
use Rattle.std.proofs.lemmas.Bool.Decides.{Decides-eqb}
use Rattle.cfgindex.specs.BitWords.{AreWords, bits_of}
use Rattle.cfgindex.proofs.Words.{length-bits_of, same_words, decided}
use Rattle.cfgindex.proofs.vob.VobPartialEq.eq.Goals as goal

-- two lists are equal exactly if their lengths and their words are
module _ (len len' : ℕ) (words others : List ℕ) (x y : List Bool) (isa : AreWords len words) (isb : AreWords len' others)
    (ex : bits_of words len ≡ x) (ey : bits_of others len' ≡ y) where
  by_words : (r : Bool) → len ≡ len' → (IsTrue r ↔ (words ≡ others)) → (IsTrue r ↔ (x ≡ y))
  by_words r e d = (
    (λ h. sym ex ∙ ap (λ l. bits_of l len) (d.0 h) ∙ ap (bits_of others) e ∙ ey),
    (λ h. d.1 (same_words len words others isa (subst (λ n. AreWords n others) (sym e) isb) (ex ∙ h ∙ sym ey ∙ ap (bits_of others) (sym e)))),
  )

  by_length : (r : Bool) → (IsTrue r ↔ (len ≡ len')) → (len ≡ len' → ⊥) → (IsTrue r ↔ (x ≡ y))
  by_length r d ne = (
    (λ h. absurd (ne (d.0 h))),
    (λ h. absurd (ne (sym (length-bits_of words len) ∙ ap length (ex ∙ h ∙ sym ey) ∙ length-bits_of others len'))),
  )

-- what says whether two lists are equal compares them bit by bit
compares : (r : Bool) (x y : List Bool) → (IsTrue r ↔ (x ≡ y)) → r ≡ pointwise beq x y
compares r x y d = decided r (pointwise beq x y) (x ≡ y) d (slice_eq-Decides booleans_Decides x y (pointwise beq x y) refl)

pub returns-then-self-other-clause-same : goal.returns-then-self-other-clause-same
returns-then-self-other-clause-same c =
    by_words _ _ _ _ _ _ c.self.invariant c.other.invariant c.self.view_is c.other.view_is _ c.if-self-other.true
    (slice_eq-Decides Decides-eqb _ _ _ c.eq.ensures)

pub returns-then-self-other-clause-value : goal.returns-then-self-other-clause-value
returns-then-self-other-clause-value c = compares _ _ _
    (by_words _ _ _ _ _ _ c.self.invariant c.other.invariant c.self.view_is c.other.view_is _ c.if-self-other.true
    (slice_eq-Decides Decides-eqb _ _ _ c.eq.ensures))

pub returns-else-self-other-clause-same : goal.returns-else-self-other-clause-same
returns-else-self-other-clause-same c =
    by_length _ _ _ _ _ _ c.self.invariant c.other.invariant c.self.view_is c.other.view_is _ (Decides-eqb _ _) c.if-self-other.false

pub returns-else-self-other-clause-value : goal.returns-else-self-other-clause-value
returns-else-self-other-clause-value c = compares _ _ _
    (by_length _ _ _ _ _ _ c.self.invariant c.other.invariant c.self.view_is c.other.view_is _ (Decides-eqb _ _) c.if-self-other.false)
