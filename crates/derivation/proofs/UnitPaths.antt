-- A rule has a path of unit steps to each rule that it derives, with nothing beside it, in one or more steps, and to no others.
use Rattle.std.proofs.Common.{◌≡◌, ℕ, List, [], ◌∷◌, ◌++◌, ◌⊎◌, inl, inr, append_assoc, append-nil, refl, sym, subst, ◌∙◌}
use Rattle.derivation.specs.Grammar.{Sym, Rule, Token}
use Rattle.derivation.specs.Derivation.{Step, Derives, none, next}
use Rattle.derivation.specs.UnitPaths.{DerivesRule, UnitRefers, UnitPath, one, more}
use Rattle.derivation.proofs.Concatenation.{derives_trans, derives_left, derives_right, derives_both, derives_production, step_production}
use Rattle.derivation.proofs.Parts.{in_parts}

no_prefix : (a b : List Sym) → [] ≡ a ++ b → a ≡ []
no_prefix [] b e = refl
no_prefix (x ∷ a) b e = absurd (cc)

no_back : (a b : List Sym) → [] ≡ a ++ b → b ≡ []
no_back [] b e = sym e
no_back (x ∷ a) b e = absurd (cc)

unit : (x y : Sym) (before after : List Sym) → x ∷ [] ≡ before ++ (y ∷ after)
    → (x ≡ y) × (before ≡ []) × (after ≡ [])
unit x y [] after e = (cc, refl, cc)
unit x y (z ∷ []) after e = absurd (cc)
unit x y (z ∷ w ∷ before) after e = absurd (cc)

module _ (P : ℕ → List Sym → Type 0) where
  -- if a concatenation derives the empty list, both parts do
  pub empty_in_parts : (a b : List Sym) → Derives P (a ++ b) [] → Derives P a [] × Derives P b []
  empty_in_parts a b d = let p = in_parts P a b refl d in (
    subst (λ l. Derives P a l) (no_prefix p.prefix p.back p.whole) p.first,
    subst (λ l. Derives P b l) (no_back p.prefix p.back p.whole) p.second,
  )

  -- what is beside a rule derives the empty list
  left_unit : (before : List Sym) (b : ℕ) (after : List Sym) → Derives P before [] → Derives P after []
      → Derives P (before ++ (Rule b ∷ after)) (Rule b ∷ [])
  left_unit before b after prefix back =
      derives_trans P (derives_right P (Rule b ∷ after) prefix) (derives_left P (Rule b ∷ []) back)

  pub unit_along : {a b : ℕ} → UnitPath P a b → DerivesRule P a b
  unit_along {a = a} {b = b} (one h) = record {
    middle = h.before ++ (Rule b ∷ h.after);
    first = step_production P a (h.before ++ (Rule b ∷ h.after)) h.has;
    around = left_unit h.before b h.after h.prefix h.back;
  }
  unit_along {a = a} (more {b = b} h p) = let l = unit_along p in record {
    middle = h.before ++ (Rule b ∷ h.after);
    first = step_production P a (h.before ++ (Rule b ∷ h.after)) h.has;
    around = derives_trans P (left_unit h.before b h.after h.prefix h.back) (next l.first l.around);
  }

  -- all of the list derives the empty list except a rule that is b, or has a path to b
  abbrev IsLeft : List Sym → ℕ → Type 0
  IsLeft [] b = ⊥
  IsLeft (Rule r ∷ a) b = (((r ≡ b) ⊎ UnitPath P r b) × Derives P a []) ⊎ (Derives P (Rule r ∷ []) [] × IsLeft a b)
  IsLeft (Token t ∷ a) b = ⊥

  left_before : (x y : List Sym) (b : ℕ) → IsLeft x b → Derives P y [] → IsLeft (x ++ y) b
  left_before [] y b h d = elim h [ ]
  left_before (Token t ∷ x) y b h d = elim h [ ]
  left_before (Rule r ∷ x) y b (inl h) d = inl (h.0, derives_both P [] [] h.1 d)
  left_before (Rule r ∷ x) y b (inr h) d = inr (h.0, left_before x y b h.1 d)

  pub token_stays : {l k : List Sym} (t : ℕ) → l ≡ Token t ∷ [] → k ≡ [] → Derives P l k → ⊥
  token_stays t e f none = absurd (cc)
  token_stays t e f (next s d) =
      let h = unit (Token t) (Rule s.rule) s.before s.after (sym e ∙ s.source) in not_rule (h.0)
    where
      not_rule : {r : ℕ} → Token t ≡ Rule r → ⊥
      not_rule e = cc

  left_after : (x y : List Sym) (b : ℕ) → Derives P x [] → IsLeft y b → IsLeft (x ++ y) b
  left_after [] y b d h = h
  left_after (Rule r ∷ x) y b d h =
      let p = empty_in_parts (Rule r ∷ []) x d in inr (p.0, left_after x y b p.1 h)
  left_after (Token t ∷ x) y b d h = absurd (token_stays t refl refl (empty_in_parts (Token t ∷ []) x d).0)

  left_in_parts : (x y : List Sym) (b : ℕ) → IsLeft (x ++ y) b
      → (IsLeft x b × Derives P y []) ⊎ (Derives P x [] × IsLeft y b)
  left_in_parts [] y b h = inr (none, h)
  left_in_parts (Token t ∷ x) y b h = elim h [ ]
  left_in_parts (Rule r ∷ x) y b (inl h) =
      let p = empty_in_parts x y h.1 in inl (inl (h.0, p.0), p.1)
  left_in_parts (Rule r ∷ x) y b (inr h) = elim (left_in_parts x y b h.1) [
    | inl k ↦ inl (inr (h.0, k.0), k.1)
    | inr k ↦ inr (derives_both P [] [] h.0 k.0, k.1)
  ]

  path_on : {a b c : ℕ} → UnitRefers P a b → (b ≡ c) ⊎ UnitPath P b c → UnitPath P a c
  path_on {a = a} h (inl e) = one (subst (λ n. UnitRefers P a n) e h)
  path_on h (inr p) = more h p

  -- a production of a rule has these symbols after nullable ones
  path_by : (a b : ℕ) (prefix symbols : List Sym) → P a (prefix ++ symbols) → Derives P prefix [] → IsLeft symbols b → UnitPath P a b
  path_by a b prefix [] has d h = elim h [ ]
  path_by a b prefix (Token t ∷ symbols) has d h = elim h [ ]
  path_by a b prefix (Rule r ∷ symbols) has d (inl h) =
      path_on (record { before = prefix; after = symbols; has = has; prefix = d; back = h.1 }) h.0
  path_by a b prefix (Rule r ∷ symbols) has d (inr h) =
      path_by a b (prefix ++ Rule r ∷ []) symbols (subst (λ l. P a l) (sym (append_assoc prefix (Rule r ∷ []) symbols)) has)
      (derives_both P [] [] d h.0) h.1

  -- what is left of a list after a step was left of it before
  left_step : {l k : List Sym} (b : ℕ) → Step P l k → IsLeft k b → IsLeft l b
  left_step {l = l} b s h =
      let nullable : Derives P s.symbols [] → Derives P (Rule s.rule ∷ []) [] = λ d. derives_trans P (derives_production P s.rule s.symbols s.has) d in
      subst (λ l. IsLeft l b) (sym s.source) (elim (left_in_parts s.before (s.symbols ++ s.after) b (subst (λ l. IsLeft l b) s.target h)) [
        | inl k ↦ let p = empty_in_parts s.symbols s.after k.1 in
            left_before s.before (Rule s.rule ∷ s.after) b k.0 (derives_both P [] [] (nullable p.0) p.1)
        | inr k ↦ left_after s.before (Rule s.rule ∷ s.after) b k.0 (elim (left_in_parts s.symbols s.after b k.1) [
          | inl j ↦ inl (inr (path_by s.rule b [] s.symbols s.has none j.0), j.1)
          | inr j ↦ inr (nullable j.0, j.1)
        ])
      ])

  left_derived : {l k : List Sym} (b : ℕ) → Derives P l k → IsLeft k b → IsLeft l b
  left_derived b none h = h
  left_derived b (next s d) h = left_step b s (left_derived b d h)

  -- a step from a single rule gives the symbols of one of its productions
  production_of_step : {a : ℕ} {m : List Sym} → Step P (Rule a ∷ []) m → P a m
  production_of_step {a = a} {m = m} s =
      let e = unit (Rule a) (Rule s.rule) s.before s.after s.source in
      let whole : s.symbols ≡ m = sym (append-nil s.symbols) ∙ cc (e.1, e.2, s.target) in
      let rule : s.rule ≡ a = cc (e.0) in
      subst (λ l. P a l) whole (subst (λ n. P n s.symbols) rule s.has)

  pub path_of_units : {a b : ℕ} → DerivesRule P a b → UnitPath P a b
  path_of_units {a = a} {b = b} d =
      path_by a b [] d.middle (production_of_step d.first) none (left_derived b d.around (inl (inl refl, none)))
