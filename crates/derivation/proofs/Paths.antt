-- Paths: a rule has one to each rule that is in a list it derives in one or more steps, and to no others.
use Rattle.std.proofs.Common.{◌≡◌, ℕ, List, [], ◌∷◌, ◌++◌, Contains, ◌⊎◌, inl, inr, append_assoc, append-nil, refl, sym, ap, subst, ◌∙◌, arith}
use Rattle.std.proofs.lemmas.List.Elements.{Contains-append_left, Contains-append_right, Contains-append_cases, Contains-push, Contains-push_cases}
use Rattle.derivation.specs.Grammar.{Sym, Rule}
use Rattle.derivation.specs.Derivation.{Step, Derives, none, next}
use Rattle.derivation.specs.Path.{Refers, Path, one, more, DerivesContaining}
use Rattle.derivation.proofs.Concatenation.{step_production, derives_left, derives_right}

-- what is around a symbol of a list
pub record Around (xs : List Sym) (s : Sym) : Type 0 where
  pub before : List Sym
  pub after : List Sym
  pub whole : xs ≡ before ++ (s ∷ after)

contains_one : (x s : Sym) → Contains (x ∷ []) s → x ≡ s
contains_one x s h = elim (Contains-push_cases [] x s h) [ inl k ↦ absurd (omega (arith, k.1)) | inr e ↦ e ]

pub around : (xs : List Sym) (s : Sym) → Contains xs s → Around xs s
around [] s (k, h, e) = absurd (omega arith)
around (x ∷ xs) s h = elim (Contains-append_cases (x ∷ []) xs s h) [
  | inl k ↦ record { before = []; after = xs; whole = ap (λ y. y ∷ xs) (contains_one x s k) }
  | inr k ↦ let l = around xs s k in record { before = x ∷ l.before; after = l.after; whole = ap (λ l. x ∷ l) l.whole }
]

contains_between : (before : List Sym) (s : Sym) (after : List Sym) → Contains (before ++ (s ∷ after)) s
contains_between before s after =
    Contains-append_right before (s ∷ after) s (Contains-append_left (s ∷ []) after s (Contains-push [] s))

contains_after : (before : List Sym) (x : Sym) (after : List Sym) (s : Sym) → Contains after s
    → Contains (before ++ (x ∷ after)) s
contains_after before x after s h =
    Contains-append_right before (x ∷ after) s (Contains-append_right (x ∷ []) after s h)

alone : (x y : Sym) (before after : List Sym) → x ∷ [] ≡ before ++ (y ∷ after)
    → (x ≡ y) × (before ≡ []) × (after ≡ [])
alone x y [] after e = (cc, refl, cc)
alone x y (z ∷ []) after e = absurd (cc)
alone x y (z ∷ w ∷ before) after e = absurd (cc)

module _ (P : ℕ → List Sym → Type 0) where
  derives_between : {k : List Sym} {b c : ℕ} (x y : List Sym) → k ≡ x ++ (Rule b ∷ y) → (l : DerivesContaining P b c)
      → Derives P k ((x ++ l.before) ++ (Rule c ∷ (l.after ++ y)))
  derives_between x y e l =
      simp (e, append_assoc) (simp append_assoc at (derives_left P x (derives_right P y (next l.first l.derives))))

  derives_containing_on : {a b c : ℕ} → Refers P a b → DerivesContaining P b c → DerivesContaining P a c
  derives_containing_on {a = a} {b = b} h l = let w = around h.symbols (Rule b) h.holds in record {
    middle = h.symbols;
    before = w.before ++ l.before;
    after = l.after ++ w.after;
    first = step_production P a h.symbols h.has;
    derives = derives_between w.before w.after w.whole l;
  }

  pub derives_along : {a b : ℕ} → Path P a b → DerivesContaining P a b
  derives_along {a = a} {b = b} (one h) = let w = around h.symbols (Rule b) h.holds in record {
    middle = h.symbols;
    before = w.before;
    after = w.after;
    first = step_production P a h.symbols h.has;
    derives = subst (λ k. Derives P h.symbols k) w.whole none;
  }
  derives_along (more h p) = derives_containing_on h (derives_along p)

  -- a rule of the list is the rule, or has a path to it
  record Reaches (l : List Sym) (b : ℕ) : Type 0 where
    rule : ℕ
    among : Contains l (Rule rule)
    path : (rule ≡ b) ⊎ Path P rule b

  reaches_itself : (before : List Sym) (b : ℕ) (after : List Sym) → Reaches (before ++ (Rule b ∷ after)) b
  reaches_itself before b after =
      record { rule = b; among = contains_between before (Rule b) after; path = inl refl }

  path_on : {a b c : ℕ} → Refers P a b → (b ≡ c) ⊎ Path P b c → Path P a c
  path_on {a = a} h (inl e) = one (subst (λ n. Refers P a n) e h)
  path_on h (inr p) = more h p

  -- what a list reaches after a step, it reached before
  reaches_before : {l k : List Sym} (b : ℕ) → Step P l k → Reaches k b → Reaches l b
  reaches_before {l = l} b s h =
      let back : Contains (s.before ++ (Rule s.rule ∷ s.after)) (Rule h.rule) → Reaches l b =
      λ i. record { rule = h.rule; among = subst (λ k. Contains k (Rule h.rule)) (sym s.source) i; path = h.path } in
      let among = subst (λ k. Contains k (Rule h.rule)) s.target h.among in
      elim (Contains-append_cases s.before (s.symbols ++ s.after) (Rule h.rule) among) [
        | inl i ↦ back (Contains-append_left s.before (Rule s.rule ∷ s.after) (Rule h.rule) i)
        | inr j ↦ elim (Contains-append_cases s.symbols s.after (Rule h.rule) j) [
          | inl i ↦ record {
            rule = s.rule;
            among =
                subst (λ k. Contains k (Rule s.rule)) (sym s.source) (contains_between s.before (Rule s.rule) s.after);
            path = inr (path_on (record { symbols = s.symbols; has = s.has; holds = i }) h.path);
          }
          | inr i ↦ back (contains_after s.before (Rule s.rule) s.after (Rule h.rule) i)
        ]
      ]

  reaches_derived : {l k : List Sym} (b : ℕ) → Derives P l k → Reaches k b → Reaches l b
  reaches_derived b none h = h
  reaches_derived b (next s d) h = reaches_before b s (reaches_derived b d h)

  -- a step from a single rule gives the symbols of one of its productions
  production_of_step : {a : ℕ} {m : List Sym} → Step P (Rule a ∷ []) m → P a m
  production_of_step {a = a} {m = m} s =
      let e = alone (Rule a) (Rule s.rule) s.before s.after s.source in
      let whole : s.symbols ≡ m = sym (append-nil s.symbols) ∙ cc (e.1, e.2, s.target) in
      let rule : s.rule ≡ a = cc (e.0) in
      subst (λ l. P a l) whole (subst (λ n. P n s.symbols) rule s.has)

  pub path_to_derived : {a b : ℕ} → DerivesContaining P a b → Path P a b
  path_to_derived {b = b} l =
      let r = reaches_derived b l.derives (reaches_itself l.before b l.after) in
      path_on (record { symbols = l.middle; has = production_of_step l.first; holds = r.among }) r.path
