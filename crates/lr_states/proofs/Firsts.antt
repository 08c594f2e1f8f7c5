-- What symbols begin with, by what is shown among them.
use Rattle.std.proofs.Common.{◌≡◌, ℕ, List, [], ◌∷◌, ◌++◌, inl, inr, refl, sym, subst}
use Rattle.cfgrammar.specs.Grammar.{Grammar, Sym, Rule, Token}
use Rattle.cfgrammar.specs.Derivation.{Derives, none}
use Rattle.cfgrammar.specs.First.{First, Nullable}
use Rattle.cfgrammar.specs.FirstSets.{Begins}
use Rattle.derivation.proofs.Concatenation.{derives_both, derives_right, derives_trans}
use Rattle.derivation.proofs.Firsts.{begins_derived, begins_derives, begins_parts, derived_closed, nullable_derived, nullable_derives, nullable_parts}
use Rattle.lr_states.specs.Lookaheads.{HasUsed, MayBegin, Shows, begins, ends}

-- a symbol that begins with the token: the token itself, or a rule of which F says so
abbrev pub SymbolBegins : (ℕ → ℕ → Type 0) → Sym → ℕ → Type 0
SymbolBegins F (Rule r) t = F r t
SymbolBegins F (Token u) t = u ≡ t

module _ (g : Grammar) (Used : ℕ → Type 0) where
  abbrev P : ℕ → List Sym → Type 0
  P = HasUsed g Used

  symbol_derives : (x : Sym) (t : ℕ) → SymbolBegins (First P) x t → (rest : List Sym) × Derives P (x ∷ []) (Token t ∷ rest)
  symbol_derives (Rule r) t h = h
  symbol_derives (Token u) t h = ([], subst (λ v. Derives P (Token u ∷ []) (Token v ∷ [])) h none)

  -- the symbols begin with what a symbol that is shown begins with
  pub shows_derives : (symbols : List Sym) (x : Sym) (t : ℕ) → Shows g Used symbols x → SymbolBegins (First P) x t
      → (rest : List Sym) × Derives P symbols (Token t ∷ rest)
  shows_derives symbols x t s h =
      let (rest, d) = symbol_derives x t h in (
        rest ++ s.after,
        subst (λ l. Derives P l (Token t ∷ (rest ++ s.after))) (sym s.is)
            (derives_trans P (derives_right P (x ∷ s.after) s.nullable) (derives_right P s.after d)),
      )

  -- a symbol that is shown, and begins with the token
  pub record ShowsFirst (F : ℕ → ℕ → Type 0) (symbols : List Sym) (t : ℕ) : Type 0 where
    pub symbol : Sym
    pub shows : Shows g Used symbols symbol
    pub begins : SymbolBegins F symbol t

  pub begins_shows : (F : ℕ → ℕ → Type 0) (symbols : List Sym) (t : ℕ) → Begins (Nullable P) F symbols t → ShowsFirst F symbols t
  begins_shows F [] t h = absurd h
  begins_shows F (Token u ∷ a) t h = record { symbol = Token u; shows = record { before = []; after = a; nullable = none; is = refl }; begins = h }
  begins_shows F (Rule r ∷ a) t (inl h) = record { symbol = Rule r; shows = record { before = []; after = a; nullable = none; is = refl }; begins = h }
  begins_shows F (Rule r ∷ a) t (inr h) =
      let w = begins_shows F a t h.1 in
      let s = w.shows in
      record {
        symbol = w.symbol;
        shows = record {
          before = Rule r ∷ s.before;
          after = s.after;
          nullable = derives_both P [] [] h.0 s.nullable;
          is = λ i. Rule r ∷ s.is i;
        };
        begins = w.begins;
      }

  -- nothing but the end token may begin the empty list
  pub begins_none : (t : ℕ) (rest : List Sym) → Derives P [] (Token t ∷ rest) → ⊥
  begins_none t rest d = begins_derived P (Nullable P) (First P) (derived_closed P) t d refl

  -- after nullable symbols may come what those after them may begin with
  pub nullable_begins : (a b : List Sym) (t : ℕ) → Derives P a [] → MayBegin g Used b t → MayBegin g Used (a ++ b) t
  nullable_begins a b t nullable (begins rest d) = begins rest (derives_trans P (derives_right P b nullable) d)
  nullable_begins a b t nullable (ends d is) = ends (derives_trans P (derives_right P b nullable) d) is

  -- a concatenation begins with what its first part does; or the first part is nullable, and the second may begin with the token
  pub data BeginsIn (a b : List Sym) (t : ℕ) : Type 0 where
    first : (rest : List Sym) → Derives P a (Token t ∷ rest) → BeginsIn a b t
    second : Derives P a [] → MayBegin g Used b t → BeginsIn a b t

  pub begins_in : (a b : List Sym) (t : ℕ) → MayBegin g Used (a ++ b) t → BeginsIn a b t
  begins_in a b t (begins rest d) =
      elim (begins_parts (Nullable P) (First P) a b t (begins_derived P (Nullable P) (First P) (derived_closed P) t d refl)) [
        | inl h ↦ let (back, e) = begins_derives P a t h in first back e
        | inr h ↦ let (back, e) = begins_derives P b t h.1 in second (nullable_derives P a h.0) (begins back e)
      ]
  begins_in a b t (ends d is) =
      let (one, two) = nullable_parts (Nullable P) a b (nullable_derived P (Nullable P) (First P) (derived_closed P) d tt) in
      second (nullable_derives P a one) (ends (nullable_derives P b two) is)
