-- What lists begin with by FIRST sets, and which symbols are nullable by them.
use Rattle.std.proofs.Common.{◌≡◌, ℕ, inl, inr, true, false, List, [], ◌∷◌, ◌++◌, sym, ◌∙◌, true≢false}
use Rattle.derivation.specs.Grammar.{Sym, Rule, Token}
use Rattle.derivation.specs.FirstSets.{AreNullable, Begins}
use Rattle.cfgsets.specs.FirstSets.{FirstSets, AreNullableBy, is_nullable_symbol}

module _ (E : ℕ → Type 0) (F : ℕ → ℕ → Type 0) where
  pub begins_prefix : (a b : List Sym) (t : ℕ) → Begins E F a t → Begins E F (a ++ b) t
  begins_prefix [] b t h = absurd h
  begins_prefix (Token u ∷ a) b t h = h
  begins_prefix (Rule r ∷ a) b t (inl h) = inl h
  begins_prefix (Rule r ∷ a) b t (inr h) = inr (h.0, begins_prefix a b t h.1)

  pub begins_past : (a b : List Sym) (t : ℕ) → AreNullable E a → Begins E F b t → Begins E F (a ++ b) t
  begins_past [] b t v h = h
  begins_past (Token u ∷ a) b t v h = absurd v
  begins_past (Rule r ∷ a) b t v h = inr (v.0, begins_past a b t v.1 h)

-- the tests say what is true
pub nullable_alone : (x : FirstSets) (s : Sym) → is_nullable_symbol x s ≡ true → AreNullableBy x (s ∷ [])
nullable_alone x (Rule r) e = (e, tt)
nullable_alone x (Token u) e = absurd (true≢false (sym e))

pub stays_alone : (x : FirstSets) (s : Sym) → is_nullable_symbol x s ≡ false → AreNullableBy x (s ∷ []) → ⊥
stays_alone x (Rule r) e h = true≢false (sym h.0 ∙ e)
stays_alone x (Token u) e h = h
