-- FIRST: closed sets contain whatever derivations show, and derivations show whatever the equations give.
use Rattle.std.proofs.Common.{ℕ, List, [], ◌∷◌, ◌++◌, ◌⊎◌, inl, inr, refl, sym, subst}
use Rattle.derivation.specs.Grammar.{Sym, Rule, Token}
use Rattle.derivation.specs.Derivation.{Derives, none, next}
use Rattle.derivation.specs.First.{First, Nullable}
use Rattle.derivation.specs.FirstSets.{AreNullable, Begins, Covers, IsClosed}
use Rattle.derivation.proofs.Concatenation.{derives_trans, derives_right, derives_both, derives_production}

module _ (E : ℕ → Type 0) where
  pub nullable_parts : (a b : List Sym) → AreNullable E (a ++ b) → AreNullable E a × AreNullable E b
  nullable_parts [] b h = (tt, h)
  nullable_parts (Rule r ∷ a) b h = let p = nullable_parts a b h.1 in ((h.0, p.0), p.1)
  nullable_parts (Token u ∷ a) b h = absurd h

  pub nullable_both : (a b : List Sym) → AreNullable E a → AreNullable E b → AreNullable E (a ++ b)
  nullable_both [] b h k = k
  nullable_both (Rule r ∷ a) b h k = (h.0, nullable_both a b h.1 k)
  nullable_both (Token u ∷ a) b h k = absurd h

-- larger sets give more
pub nullable_map : (E E' : ℕ → Type 0) → ((r : ℕ) → E r → E' r) → (a : List Sym) → AreNullable E a → AreNullable E' a
nullable_map E E' f [] h = tt
nullable_map E E' f (Rule r ∷ a) h = (f r h.0, nullable_map E E' f a h.1)
nullable_map E E' f (Token u ∷ a) h = absurd h

pub begins_map : (E E' : ℕ → Type 0) (F F' : ℕ → ℕ → Type 0) → ((r : ℕ) → E r → E' r) → ((r t : ℕ) → F r t → F' r t)
    → (a : List Sym) (t : ℕ) → Begins E F a t → Begins E' F' a t
begins_map E E' F F' f k [] t h = absurd h
begins_map E E' F F' f k (Token u ∷ a) t h = h
begins_map E E' F F' f k (Rule r ∷ a) t (inl h) = inl (k r t h)
begins_map E E' F F' f k (Rule r ∷ a) t (inr h) = inr (f r h.0, begins_map E E' F F' f k a t h.1)

module _ (E : ℕ → Type 0) (F : ℕ → ℕ → Type 0) where
  pub begins_parts : (a b : List Sym) (t : ℕ) → Begins E F (a ++ b) t → Begins E F a t ⊎ (AreNullable E a × Begins E F b t)
  begins_parts [] b t h = inr (tt, h)
  begins_parts (Token u ∷ a) b t h = inl h
  begins_parts (Rule r ∷ a) b t (inl h) = inl (inl h)
  begins_parts (Rule r ∷ a) b t (inr h) = elim (begins_parts a b t h.1) [
    | inl k ↦ inl (inr (h.0, k))
    | inr k ↦ inr ((h.0, k.0), k.1)
  ]

  -- what is so after a step was so before it
  pub nullable_before : (r : ℕ) (symbols : List Sym) → Covers E F r symbols → (x y : List Sym) → AreNullable E (x ++ (symbols ++ y)) → AreNullable E (x ++ (Rule r ∷ y))
  nullable_before r symbols c [] y h = let p = nullable_parts E symbols y h in (c.empty p.0, p.1)
  nullable_before r symbols c (Rule q ∷ x) y h = (h.0, nullable_before r symbols c x y h.1)
  nullable_before r symbols c (Token u ∷ x) y h = absurd h

  pub begins_before : (r : ℕ) (symbols : List Sym) → Covers E F r symbols → (x y : List Sym) (t : ℕ) → Begins E F (x ++ (symbols ++ y)) t → Begins E F (x ++ (Rule r ∷ y)) t
  begins_before r symbols c [] y t h = elim (begins_parts symbols y t h) [
    | inl k ↦ inl (c.first t k)
    | inr k ↦ inr (c.empty k.0, k.1)
  ]
  begins_before r symbols c (Token u ∷ x) y t h = h
  begins_before r symbols c (Rule q ∷ x) y t (inl h) = inl h
  begins_before r symbols c (Rule q ∷ x) y t (inr h) = inr (h.0, begins_before r symbols c x y t h.1)

module _ (P : ℕ → List Sym → Type 0) (E : ℕ → Type 0) (F : ℕ → ℕ → Type 0) (closed : IsClosed P E F) where
  pub nullable_derived : {a b : List Sym} → Derives P a b → AreNullable E b → AreNullable E a
  nullable_derived none h = h
  nullable_derived (next s d) h = subst (AreNullable E) (sym s.source)
      (nullable_before E F s.rule s.symbols (closed s.rule s.symbols s.has) s.before s.after
      (subst (AreNullable E) s.target (nullable_derived d h)))

  pub begins_derived : {a b : List Sym} (t : ℕ) → Derives P a b → Begins E F b t → Begins E F a t
  begins_derived t none h = h
  begins_derived t (next s d) h = subst (λ l. Begins E F l t) (sym s.source)
      (begins_before E F s.rule s.symbols (closed s.rule s.symbols s.has) s.before s.after t
      (subst (λ l. Begins E F l t) s.target (begins_derived t d h)))

  pub closed_empty : (r : ℕ) → Nullable P r → E r
  closed_empty r d = (nullable_derived d tt).0

  pub closed_first : (r t : ℕ) → First P r t → F r t
  closed_first r t (rest, d) = elim (begins_derived t d refl) [ inl h ↦ h | inr h ↦ absurd h.1 ]

module _ (P : ℕ → List Sym → Type 0) where
  pub nullable_derives : (a : List Sym) → AreNullable (Nullable P) a → Derives P a []
  nullable_derives [] h = none
  nullable_derives (Rule r ∷ a) h = derives_both P [] [] h.0 (nullable_derives a h.1)
  nullable_derives (Token u ∷ a) h = absurd h

  pub begins_derives : (a : List Sym) (t : ℕ) → Begins (Nullable P) (First P) a t → (rest : List Sym) × Derives P a (Token t ∷ rest)
  begins_derives [] t h = absurd h
  begins_derives (Token u ∷ a) t h = (a, subst (λ v. Derives P (Token u ∷ a) (Token v ∷ a)) h none)
  begins_derives (Rule r ∷ a) t (inl h) = (h.0 ++ a, derives_right P a h.1)
  begins_derives (Rule r ∷ a) t (inr h) =
      let k = begins_derives a t h.1 in
      (k.0, derives_trans P (derives_right P a h.0) k.1)

  -- what derivations show is closed
  pub derived_closed : IsClosed P (Nullable P) (First P)
  derived_closed r symbols has = record {
    empty = λ h. derives_trans P (derives_production P r symbols has) (nullable_derives symbols h);
    first = λ t h. let k = begins_derives symbols t h in (k.0, derives_trans P (derives_production P r symbols has) k.1);
  }
