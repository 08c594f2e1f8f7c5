-- FOLLOW: closed sets contain whatever derivations show, and derivations show whatever the equations give.
use Rattle.std.proofs.Common.{ℕ, List, [], ◌∷◌, ◌++◌, inl, inr, append_assoc, refl, sym, subst}
use Rattle.derivation.specs.Grammar.{Sym, Grammar, Rule, Token, HasProduction}
use Rattle.derivation.specs.Derivation.{Derives, none, next}
use Rattle.derivation.specs.First.{First, Nullable}
use Rattle.derivation.specs.Follow.{Follow, FollowEnd, MayFollow}
use Rattle.derivation.specs.FirstSets.{AreNullable, Begins, Covers, IsClosed}
use Rattle.derivation.specs.FollowSets.{CoversFollow, IsFollowClosed}
use Rattle.derivation.proofs.Concatenation.{derives_trans, derives_left, derives_right, derives_production}
use Rattle.derivation.proofs.Firsts.{nullable_parts, begins_parts, nullable_before, begins_before, nullable_derives, begins_derives}

module _ (E : ℕ → Type 0) (F : ℕ → ℕ → Type 0) (W : ℕ → ℕ → Type 0) where
  follow_glue : (s y : List Sym) (j k : ℕ → Type 0) → CoversFollow E F W s j → CoversFollow E F W y k
      → ((t : ℕ) → Begins E F y t → j t) → (AreNullable E y → (t : ℕ) → k t → j t) → CoversFollow E F W (s ++ y) k
  follow_glue [] y j k h f b v = f
  follow_glue (Token u ∷ s) y j k h f b v = follow_glue s y j k h f b v
  follow_glue (Rule q ∷ s) y j k h f b v = (
    (λ t on. elim (begins_parts E F s y t on) [ inl p ↦ h.0 t p | inr p ↦ h.1 p.0 t (b t p.1) ]),
    (λ all t on. let p = nullable_parts E s y all in h.1 p.0 t (v p.1 t on)),
    follow_glue s y j k h.2 f b v,
  )

  -- sets that cover a list before a step cover it after the step
  follow_after : (r : ℕ) (symbols : List Sym) → Covers E F r symbols → CoversFollow E F W symbols (W r) → (x y : List Sym) (k : ℕ → Type 0)
      → CoversFollow E F W (x ++ (Rule r ∷ y)) k → CoversFollow E F W (x ++ (symbols ++ y)) k
  follow_after r symbols c f [] y k h = follow_glue symbols y (W r) k f h.2 h.0 h.1
  follow_after r symbols c f (Token u ∷ x) y k h = follow_after r symbols c f x y k h
  follow_after r symbols c f (Rule q ∷ x) y k h = (
    (λ t on. h.0 t (begins_before E F r symbols c x y t on)),
    (λ all t on. h.1 (nullable_before E F r symbols c x y all) t on),
    follow_after r symbols c f x y k h.2,
  )

  follow_at : (x : List Sym) (r : ℕ) (y : List Sym) (k : ℕ → Type 0) → CoversFollow E F W (x ++ (Rule r ∷ y)) k → CoversFollow E F W (Rule r ∷ y) k
  follow_at [] r y k h = h
  follow_at (Token u ∷ x) r y k h = follow_at x r y k h
  follow_at (Rule q ∷ x) r y k h = follow_at x r y k h.2

module _ (P : ℕ → List Sym → Type 0) (E : ℕ → Type 0) (F W : ℕ → ℕ → Type 0) (closed : IsClosed P E F) (covers : IsFollowClosed P E F W) where
  follow_along : {a b : List Sym} (k : ℕ → Type 0) → Derives P a b → CoversFollow E F W a k → CoversFollow E F W b k
  follow_along k none h = h
  follow_along k (next s d) h = follow_along k d (subst (λ l. CoversFollow E F W l k) (sym s.target)
      (follow_after E F W s.rule s.symbols (closed s.rule s.symbols s.has) (covers s.rule s.symbols s.has) s.before s.after k
      (subst (λ l. CoversFollow E F W l k) s.source h)))

  follow_from : (root : ℕ) → CoversFollow E F W (Rule root ∷ []) (W root)
  follow_from root = ((λ t h. absurd h), (λ all t h. h), tt)

  pub closed_follow : (r t : ℕ) → Follow P r t → W r t
  closed_follow r t f = (follow_at E F W f.before r (Token t ∷ f.after) (W f.root) (follow_along (W f.root) f.derived (follow_from f.root))).0 t refl

  pub closed_end : (r t : ℕ) → FollowEnd P r → W 0 t → W r t
  closed_end r t f h = (follow_at E F W f.before r [] (W 0) (follow_along (W 0) f.derived (follow_from 0))).1 tt t h

module _ (P : ℕ → List Sym → Type 0) (r : ℕ) (prefix : List Sym) (q : ℕ) (a : List Sym) (has : P r (prefix ++ (Rule q ∷ a))) where
  -- the rule derives its production's symbols, with the rest of them replaced by what it derives
  derives_rest : (b : List Sym) → Derives P a b → Derives P (Rule r ∷ []) (prefix ++ (Rule q ∷ b))
  derives_rest b d = derives_trans P (derives_production P r _ has) (derives_left P prefix (derives_left P (Rule q ∷ []) d))

  follow_from_rest : (t : ℕ) → Begins (Nullable P) (First P) a t → Follow P q t
  follow_from_rest t h = let d = begins_derives P a t h in record { root = r; before = prefix; after = d.0; derived = derives_rest (Token t ∷ d.0) d.1 }

  -- if the rest is nullable, a list that contains r derives the same list with r replaced by the production's prefix and q
  derives_last : (before rest : List Sym) → AreNullable (Nullable P) a → Derives P (before ++ (Rule r ∷ rest)) ((before ++ prefix) ++ (Rule q ∷ rest))
  derives_last before rest h =
      subst (λ l. Derives P (before ++ (Rule r ∷ rest)) l) (sym (append_assoc before prefix (Rule q ∷ rest)))
      (derives_left P before (subst (λ l. Derives P (Rule r ∷ rest) l) (append_assoc prefix (Rule q ∷ []) rest)
      (derives_right P rest (derives_rest [] (nullable_derives P a h)))))

  follow_from_rule : (t : ℕ) → AreNullable (Nullable P) a → Follow P r t → Follow P q t
  follow_from_rule t h f = record {
    root = f.root;
    before = f.before ++ prefix;
    after = f.after;
    derived = derives_trans P f.derived (derives_last f.before (Token t ∷ f.after) h);
  }

  end_from_rule : AreNullable (Nullable P) a → FollowEnd P r → FollowEnd P q
  end_from_rule h f = record { before = f.before ++ prefix; derived = derives_trans P f.derived (derives_last f.before [] h) }

module _ (g : Grammar) where
  follow_derived : (r : ℕ) (prefix a : List Sym) → HasProduction g r (prefix ++ a)
      → CoversFollow (Nullable (HasProduction g)) (First (HasProduction g)) (MayFollow g) a (MayFollow g r)
  follow_derived r prefix [] has = tt
  follow_derived r prefix (Token u ∷ a) has =
      follow_derived r (prefix ++ Token u ∷ []) a (subst (λ l. HasProduction g r l) (sym (append_assoc prefix (Token u ∷ []) a)) has)
  follow_derived r prefix (Rule q ∷ a) has = (
    (λ t h. inl (follow_from_rest (HasProduction g) r prefix q a has t h)),
    (λ all t h. elim h [
      | inl f ↦ inl (follow_from_rule (HasProduction g) r prefix q a has t all f)
      | inr e ↦ inr (e.0, end_from_rule (HasProduction g) r prefix q a has all e.1)
    ]),
    follow_derived r (prefix ++ Rule q ∷ []) a (subst (λ l. HasProduction g r l) (sym (append_assoc prefix (Rule q ∷ []) a)) has),
  )

  -- what derivations show is closed, and the end token follows the start rule
  pub derived_follow : IsFollowClosed (HasProduction g) (Nullable (HasProduction g)) (First (HasProduction g)) (MayFollow g)
  derived_follow r symbols has = follow_derived r [] symbols has

  pub end_of_start : FollowEnd (HasProduction g) 0
  end_of_start = record { before = []; derived = none }
