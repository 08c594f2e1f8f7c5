-- Shapes distinguish productions, and what is recorded for a shape is the first production that has it.
use Rattle.std.proofs.Common.{◌≡◌, ◌==◌, ◌&&◌, ℕ, ◌+◌, ◌<◌, ◌≤◌, inl, inr, Bool, true, false, cond, List, [], ◌∷◌, ◌++◌, map, length, get_or, Option, Some, None, unwrap_or, refl, sym, ap, subst, ◌∙◌, arith, true≢false}
use Rattle.std.specs.Bool.{Decides}
use Rattle.std.specs.Cmp.Lexicographic.{pointwise}
use Rattle.std.specs.HashMap.{HashMap, IsEmpty, get}
use Rattle.std.specs.Map.{lookup}
use Rattle.std.proofs.lemmas.Bool.{cases_lt}
use Rattle.std.proofs.lemmas.Bool.Decides.{Decides-and, Decides-eqb, Decides-like}
use Rattle.std.proofs.lemmas.Slice.Eq.{slice_eq-Decides}
use Rattle.std.proofs.lemmas.List.{get_or_append_left, get_or_push, length_push}
use Rattle.cfgrammar.specs.Grammar.{Grammar, Production, Rule, Sym, Token}
use Rattle.cfgrammar.specs.Symbol.{Symbol}
use Rattle.cfgrammar.specs.Symbol.TheVariants as code
use Rattle.cfgrammar.specs.NumberedSymbols.{sym_of}
use Rattle.cfgrammar.specs.Openings.{nth_production}
use Rattle.cfgfindings.specs.contracts.repeats.ShapePartialEq.TheImpl.{ghosts as shapes}
use Rattle.cfgfindings.specs.declared.repeats.Shape.{Shape}
use Rattle.cfgfindings.specs.Inner.FirstProductions.{AreFirsts, IsFirst, production_of}

-- a symbol is what is shown of it
symbol_of : Sym → Symbol ℕ
symbol_of (Rule r) = code.Rule (record { 0 = r })
symbol_of (Token t) = code.Token (record { 0 = t })

shown : (xs : List (Symbol ℕ)) → map symbol_of (map (sym_of (λ s. s)) xs) ≡ xs
unfolding symbol_of
shown [] = refl
shown (code.Rule x ∷ xs) = λ i. code.Rule x ∷ shown xs i
shown (code.Token x ∷ xs) = λ i. code.Token x ∷ shown xs i

-- shapes are equal exactly if they are of the same production, given that symbols are equal exactly if they are the same
pub shapes_Decide : {same : Symbol ℕ → Symbol ℕ → Bool} → ((a b : Symbol ℕ) → Decides (same a b) (a ≡ b)) → (x y : Shape)
    → Decides ((x.rule == y.rule) && pointwise same x.symbols.now y.symbols.now) (production_of x ≡ production_of y)
shapes_Decide symbols x y = Decides-like _
    (λ h. λ i. record { rule = h.0 i; symbols = map (sym_of (λ number. number)) (h.1 i) })
    (λ e. (
      ap (λ (p : Production). p.rule) e,
      sym (shown x.symbols.now) ∙ ap (λ (p : Production). map symbol_of p.symbols) e ∙ shown y.symbols.now,
    ))
    (Decides-and _ _ (Decides-eqb x.rule y.rule) (slice_eq-Decides symbols x.symbols.now y.symbols.now _ refl))

module _ (g : Grammar) where
  -- what is recorded for a production among the first n: the first number at which it occurs
  abbrev pub IsKnown : ℕ → Production → Option ℕ → Type 0
  IsKnown n production None = (p : ℕ) → p < n → nth_production g p ≡ production → ⊥
  IsKnown n production (Some first) = (first < n) × (nth_production g first ≡ production) × ((p : ℕ) → p < n → nth_production g p ≡ production → first ≤ p)

  abbrev pub AreKnown : {S : Type 0} → ℕ → HashMap Shape ℕ S → Type 0
  AreKnown n known = (shape : Shape) → IsKnown n (production_of shape) (get shapes.eq known shape)

  -- nothing is recorded before the first production
  pub known_none : {S : Type 0} (known : HashMap Shape ℕ S) → IsEmpty known → AreKnown 0 known
  known_none known empty shape = subst (IsKnown 0 (production_of shape)) (sym (ap (lookup (shapes.eq shape)) empty)) (λ p before same. omega (arith, before))

  -- another production changes nothing
  stays : (n : ℕ) (production : Production) (o : Option ℕ) → (nth_production g n ≡ production → ⊥) → IsKnown n production o → IsKnown (n + 1) production o
  stays n production None other none = λ p before same. elim (cases_lt p n) [
    | inl lt ↦ none p lt same
    | inr le ↦ let is : p ≡ n = omega arith in other (ap (nth_production g) (sym is) ∙ same)
  ]
  stays n production (Some first) other (within, is, least) = (
    omega arith,
    is,
    λ p before same. elim (cases_lt p n) [ inl lt ↦ least p lt same | inr le ↦ omega arith ],
  )

  module _ (n : ℕ) (shape : Shape) (is : production_of shape ≡ nth_production g n) {S : Type 0} (known : HashMap Shape ℕ S) (knows : AreKnown n known) where
    pub first_is : IsFirst g n (unwrap_or (get shapes.eq known shape) n)
    first_is = go (get shapes.eq known shape) (knows shape)
      where
        go : (o : Option ℕ) → IsKnown n (production_of shape) o → IsFirst g n (unwrap_or o n)
        go None none = record { upto = omega arith; same = refl; least = λ other before same. absurd (none other before (same ∙ sym is)) }
        go (Some first) (within, there, least) = record { upto = omega arith; same = there ∙ is; least = λ other before same. least other before (same ∙ sym is) }

    -- one more production is recorded
    pub known_more : ((x y : Shape) → Decides (shapes.eq x y) (production_of x ≡ production_of y)) → (first : ℕ) → IsFirst g n first → (new : HashMap Shape ℕ S)
        → ((other : Shape) → get shapes.eq new other ≡ cond (shapes.eq shape other) (Some first) (get shapes.eq known other)) → AreKnown (n + 1) new
    known_more decides first w new updates other = subst (IsKnown (n + 1) (production_of other)) (sym (updates other)) (go (shapes.eq shape other) refl)
      where
        go : (b : Bool) → shapes.eq shape other ≡ b → IsKnown (n + 1) (production_of other) (cond b (Some first) (get shapes.eq known other))
        go true at =
            let same : nth_production g n ≡ production_of other = sym is ∙ (decides shape other).0 at in (
              omega (arith, w.upto),
              w.same ∙ same,
              λ p before alike. elim (cases_lt p n) [ inl lt ↦ w.least p lt (alike ∙ sym same) | inr le ↦ omega (arith, w.upto) ],
            )
        go false apart = stays n (production_of other) (get shapes.eq known other)
            (λ same. true≢false (sym ((decides shape other).1 (is ∙ same)) ∙ apart)) (knows other)

  pub firsts_more : (n first : ℕ) (firsts new : List ℕ) → AreFirsts g n firsts → IsFirst g n first → new ≡ firsts ++ first ∷ [] → AreFirsts g (n + 1) new
  firsts_more n first firsts new w is grown = subst (AreFirsts g (n + 1)) (sym grown) (record {
    long = length_push firsts first ∙ ap (λ m. m + 1) w.long;
    each = λ p before. elim (cases_lt p n) [
      | inl lt ↦ let within : p < length firsts = omega (arith, w.long) in
          subst (IsFirst g p) (sym (get_or_append_left firsts (first ∷ []) 0 p within)) (w.each p lt)
      | inr le ↦ let here : p ≡ n = omega arith in
          subst (λ m. IsFirst g m (get_or (firsts ++ first ∷ []) m 0)) (sym here) (subst (IsFirst g n) (sym (get_or_push firsts first 0 n w.long)) is)
    ];
  })
