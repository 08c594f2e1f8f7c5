-- FOLLOW sets: the next tokens at a position of a production, and how they are gathered.
use Rattle.std.proofs.Common.{◌≡◌, ◌↔◌, ℕ, ◌+◌, ◌≤◌, ◌⊎◌, inl, inr, Bool, true, false, List, [], ◌∷◌, drop, get_or, length, replicate, All, refl, sym, ap, ◌∙◌, subst, true≢false}
use Rattle.std.proofs.lemmas.List.{drop_all, length-replicate}
use Rattle.lemmas.proofs.Elements.{get_or-replicate_default}
use Rattle.cfgindex.proofs.Bits.{length-union, union_adds}
use Rattle.lemmas.proofs.Adding.{adds_as}
use Rattle.derivation.specs.Grammar.{Sym, Rule, Grammar, IsSymbolOf}
use Rattle.derivation.specs.FirstSets.{AreNullable, Begins}
use Rattle.derivation.proofs.Firsts.{nullable_parts, nullable_both, begins_parts}
use Rattle.cfgindex.specs.declared.idxnewtype.Symbol.{Symbol}
use Rattle.cfgsets.specs.declared.follows.Lookahead.{Lookahead}
use Rattle.cfgsets.specs.declared.follows.Lookahead.TheVariants as lookaheads
use Rattle.cfgtables.specs.NumberedSymbols.{sym_of}
use Rattle.cfgsets.specs.Table.{HasBit, row_of}
use Rattle.cfgsets.specs.Inner.Joined.{joined}
use Rattle.cfgsets.specs.FirstSets.{IsAmongFirsts, IsNullableRule, is_nullable_symbol}
use Rattle.cfgsets.specs.GrowingFollows.{FollowSets}
use Rattle.cfgsets.specs.Inner.Lookaheads.{BeginsList, NullableList, After, IsGathered, Gathers, LookaheadHas, IsLookaheadOf, IsEnd, LookaheadBefore}
use Rattle.cfgsets.proofs.Beginnings.{begins_prefix, begins_past, nullable_alone, stays_alone}
use Rattle.cfgsets.proofs.FollowVisits.{after_grow}

-- sets that contain all that others contain
abbrev pub Grows : FollowSets → FollowSets → Type 0
Grows x y = (r t : ℕ) → HasBit x.follows r t → HasBit y.follows r t

-- a row was joined
pub gathers_row : (gives : ℕ → Type 0) (row old new : List Bool) → length old ≡ length row → new ≡ joined old row
    → ((t : ℕ) → IsGathered row t → gives t) → ((t : ℕ) → gives t → IsGathered row t) → Gathers gives old new
gathers_row gives row old new wide put to from = record {
  long = ap length put ∙ length-union old row wide;
  tokens = subst (λ l. (t : ℕ) → (IsGathered l t ↔ (IsGathered old t ⊎ gives t))) (sym put)
      (adds_as gives (λ t h. inr (to t h)) (λ t h. inr (from t h)) (union_adds old row wide));
}

-- what a rule begins with
pub gathers_rule : (x : FollowSets) (r : ℕ) (old new : List Bool) → length old ≡ length (row_of x.firsts.firsts r)
    → new ≡ joined old (row_of x.firsts.firsts r) → Gathers (BeginsList x (Rule r ∷ [])) old new
gathers_rule x r old new wide put = gathers_row _ (row_of x.firsts.firsts r) old new wide put (λ t h. inl h)
    (λ t h. elim h [ inl i ↦ i | inr i ↦ absurd i.1 ])

-- gathered when nothing was gathered before
module _ (gives : ℕ → Type 0) (old none new : List Bool) (bare : none ≡ replicate (length old) false) (w : Gathers gives none new) where
  pub anew_long : length new ≡ length old
  anew_long = w.long ∙ ap length bare ∙ length-replicate (length old) false

  pub anew_tokens : (t : ℕ) → (IsGathered new t ↔ gives t)
  anew_tokens t = (
    (λ h. elim ((w.tokens t).0 h) [
      | inl i ↦ absurd (true≢false (sym i ∙ ap (λ l. get_or l t false) bare ∙ get_or-replicate_default (length old) t false))
      | inr i ↦ i
    ]),
    (λ h. (w.tokens t).1 (inr h)),
  )

-- The next tokens before the n-th symbol: all that came next at the start, and only what comes next now or later, as sets grow.
pub record HasLookahead {S : Type 0} (number : S → ℕ) (rule : ℕ) (symbols : List Sym) (n wide : ℕ) (old new : FollowSets) (prefix : Lookahead S)
    (tokens : List Bool) : Type 0 where
  pub fits : (g : Grammar) → All (IsSymbolOf g) symbols → IsLookaheadOf number g prefix
  pub long : length tokens ≡ wide
  pub below : (x : FollowSets) → x.firsts ≡ old.firsts → Grows new x → (t : ℕ) → After old rule (drop n symbols) t
      → LookaheadHas number x rule tokens prefix t
  pub above : (x : FollowSets) → x.firsts ≡ old.firsts → Grows new x → (t : ℕ) → LookaheadHas number x rule tokens prefix t
      → After x rule (drop n symbols) t

module _ {S : Type 0} (number : S → ℕ) (rule : ℕ) where
  -- before a symbol that isn't nullable, the next tokens are what it begins with
  pub steps_over : (x : FollowSets) (symbol : Symbol S) (prefix : Lookahead S) (tokens : List Bool)
      → is_nullable_symbol x.firsts (sym_of number symbol) ≡ false
      → LookaheadBefore number x rule (sym_of number symbol) prefix tokens (lookaheads.Symbol symbol) tokens
  steps_over x symbol prefix tokens e = record {
    past = λ t. ((λ h. inl h), (λ h. elim h [ inl i ↦ i | inr i ↦ absurd (stays_alone x.firsts (sym_of number symbol) e i.0) ]));
    begun = λ h. h;
    fits = λ g is. is;
    long = refl;
  }

  -- before a nullable symbol, the next tokens after it are gathered too
  pub steps_through : (x : FollowSets) (s : Sym) (prefix : Lookahead S) (tokens mid tokens' : List Bool) → is_nullable_symbol x.firsts s ≡ true
      → length mid ≡ length tokens → ((t : ℕ) → (IsGathered mid t ↔ LookaheadHas number x rule tokens prefix t))
      → Gathers (BeginsList x (s ∷ [])) mid tokens' → LookaheadBefore number x rule s prefix tokens lookaheads.Gathered tokens'
  steps_through x s prefix tokens mid tokens' e long at w = record {
    past = λ t. (
      (λ h. elim ((w.tokens t).0 h) [ inl i ↦ inr (nullable_alone x.firsts s e, (at t).0 i) | inr i ↦ inl i ]),
      (λ h. (w.tokens t).1 (elim h [ inl i ↦ inr i | inr i ↦ inl ((at t).1 i.1) ])),
    );
    begun = λ h. h;
    fits = λ g is. tt;
    long = w.long ∙ long;
  }

  gives_grow : (x y : FollowSets) (tokens : List Bool) (prefix : Lookahead S) (t : ℕ) → y.firsts ≡ x.firsts → Grows x y
      → LookaheadHas number x rule tokens prefix t → LookaheadHas number y rule tokens prefix t
  gives_grow x y tokens lookaheads.End t e grow h = grow rule t h
  gives_grow x y tokens (lookaheads.Symbol symbol) t e grow h =
      subst (λ f. Begins (IsNullableRule f) (IsAmongFirsts f) (sym_of number symbol ∷ []) t) (sym e) h
  gives_grow x y tokens lookaheads.Gathered t e grow h = h

  gives_stays : (x y : FollowSets) (tokens : List Bool) (prefix : Lookahead S) (t : ℕ) → (IsEnd prefix → ⊥) → y.firsts ≡ x.firsts
      → LookaheadHas number y rule tokens prefix t → LookaheadHas number x rule tokens prefix t
  gives_stays x y tokens lookaheads.End t begun e h = absurd (begun tt)
  gives_stays x y tokens (lookaheads.Symbol symbol) t begun e h =
      subst (λ f. Begins (IsNullableRule f) (IsAmongFirsts f) (sym_of number symbol ∷ []) t) e h
  gives_stays x y tokens lookaheads.Gathered t begun e h = h

  module _ (symbols : List Sym) where
    pub has_lookahead_none : (n : ℕ) (x : FollowSets) (tokens : List Bool) → length symbols ≤ n
        → HasLookahead number rule symbols n (length tokens) x x lookaheads.End tokens
    has_lookahead_none n x tokens le = record {
      fits = λ g all. tt;
      long = refl;
      below = λ y e grow t h. elim (subst (λ l. After x rule l t) (drop_all n symbols le) h) [ inl i ↦ absurd i | inr i ↦ grow rule t i.1 ];
      above = λ y e grow t h. subst (λ l. After y rule l t) (sym (drop_all n symbols le)) (inr (tt, h));
    }

    -- one symbol back
    pub has_lookahead_one : (n wide : ℕ) (s : Sym) (rest : List Sym) (old mid new : FollowSets) (prefix lookahead' : Lookahead S) (tokens tokens' : List Bool)
        → drop n symbols ≡ s ∷ rest → rest ≡ drop (n + 1) symbols → ((g : Grammar) → All (IsSymbolOf g) symbols → IsSymbolOf g s)
        → HasLookahead number rule symbols (n + 1) wide old mid prefix tokens → new.firsts ≡ old.firsts → Grows mid new
        → LookaheadBefore number new rule s prefix tokens lookahead' tokens' → HasLookahead number rule symbols n wide old new lookahead' tokens'
    has_lookahead_one n wide s rest old mid new prefix lookahead' tokens tokens' at after of w same grew step = record {
      fits = λ g all. step.fits g (of g all);
      long = step.long ∙ w.long;
      below = λ x e grow t h. gives_grow new x tokens' lookahead' t (e ∙ sym same) grow
          ((step.past t).1 (back t (subst (λ l. After old rule l t) at h)));
      above = λ x e grow t h. subst (λ l. After x rule l t) (sym at)
          (after_grow new x rule (s ∷ rest) t (e ∙ sym same) (grow rule t)
          (on t ((step.past t).0 (gives_stays new x tokens' lookahead' t step.begun (e ∙ sym same) h))));
    }
      where
        prefixes_below : (t : ℕ) → After old rule rest t → LookaheadHas number new rule tokens prefix t
        prefixes_below t h = w.below new same grew t (subst (λ l. After old rule l t) after h)

        prefixes_above : (t : ℕ) → LookaheadHas number new rule tokens prefix t → After new rule rest t
        prefixes_above t h = subst (λ l. After new rule l t) (sym after) (w.above new same grew t h)

        begins_now : (t : ℕ) → BeginsList old (s ∷ []) t → BeginsList new (s ∷ []) t
        begins_now t h = subst (λ f. Begins (IsNullableRule f) (IsAmongFirsts f) (s ∷ []) t) (sym same) h

        nullable_now : NullableList old (s ∷ []) → NullableList new (s ∷ [])
        nullable_now h = subst (λ f. AreNullable (IsNullableRule f) (s ∷ [])) (sym same) h

        back : (t : ℕ) → After old rule (s ∷ rest) t
            → BeginsList new (s ∷ []) t ⊎ (NullableList new (s ∷ []) × LookaheadHas number new rule tokens prefix t)
        back t (inl h) = elim (begins_parts _ _ (s ∷ []) rest t h) [
          | inl i ↦ inl (begins_now t i)
          | inr i ↦ inr (nullable_now i.0, prefixes_below t (inl i.1))
        ]
        back t (inr h) = let v = nullable_parts _ (s ∷ []) rest h.0 in inr (nullable_now v.0, prefixes_below t (inr (v.1, h.1)))

        on : (t : ℕ) → BeginsList new (s ∷ []) t ⊎ (NullableList new (s ∷ []) × LookaheadHas number new rule tokens prefix t)
            → After new rule (s ∷ rest) t
        on t (inl h) = inl (begins_prefix _ _ (s ∷ []) rest t h)
        on t (inr h) = elim (prefixes_above t h.1) [
          | inl i ↦ inl (begins_past _ _ (s ∷ []) rest t h.0 i)
          | inr i ↦ inr (nullable_both _ (s ∷ []) rest h.0 i.0, i.1)
        ]
