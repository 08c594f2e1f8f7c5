-- The empty list is derived by used productions alone: each rule of a production that derives it has a sentence, the empty one.
use Rattle.std.proofs.Common.{◌≡◌, ◌↔◌, inl, inr, ℕ, List, [], ◌∷◌, Contains, subst, ◌∙◌}
use Rattle.std.proofs.lemmas.List.{get_or_default}
use Rattle.std.proofs.lemmas.List.Elements.{Contains-get_or}
use Rattle.cfgrammar.specs.Grammar.{Grammar, HasProduction, Sym, Rule, Token}
use Rattle.cfgrammar.specs.Derivation.{Derives, Step, next, none}
use Rattle.cfgrammar.specs.First.{Nullable}
use Rattle.cfgrammar.specs.FirstSets.{AreNullable, IsClosed}
use Rattle.derivation.proofs.Concatenation.{derives_production, derives_trans}
use Rattle.derivation.proofs.Firsts.{nullable_derived, nullable_derives}
use Rattle.cfgrammar.proofs.Contained.{contains_cases, contains_none}
use Rattle.cfgrammar.specs.Openings.{nth_production}
use Rattle.lr_states.specs.Viable.{IsUsed}
use Rattle.lr_states.specs.Lookaheads.{HasUsed}

-- more productions derive more
module _ {P Q : ℕ → List Sym → Type 0} (to : (r : ℕ) (symbols : List Sym) → P r symbols → Q r symbols) where
  step_as : {a b : List Sym} → Step P a b → Step Q a b
  step_as s = record {
    before = s.before;
    rule = s.rule;
    after = s.after;
    symbols = s.symbols;
    has = to s.rule s.symbols s.has;
    source = s.source;
    target = s.target;
  }

  pub derives_as : {a b : List Sym} → Derives P a b → Derives Q a b
  derives_as none = none
  derives_as (next s d) = next (step_as s) (derives_as d)

-- a rule among nullable symbols is nullable
nullable_among : (E : ℕ → Type 0) (symbols : List Sym) → AreNullable E symbols → (r : ℕ) → Contains symbols (Rule r) → E r
nullable_among E [] all r h = absurd (contains_none (Rule r) h)
nullable_among E (Token u ∷ symbols) all r h = absurd all
nullable_among E (Rule q ∷ symbols) all r h = elim (contains_cases (Rule q) (Rule r) symbols h) [
  | inl same ↦ let index : q ≡ r = cc in subst E index all.0
  | inr later ↦ nullable_among E symbols all.1 r later
]

module _ (g : Grammar) where
  abbrev P : ℕ → List Sym → Type 0
  P = HasProduction g

  abbrev U : ℕ → List Sym → Type 0
  U = HasUsed g (IsUsed g)

  pub used_has : (r : ℕ) (symbols : List Sym) → U r symbols → P r symbols
  used_has r symbols h = subst (Contains g.productions) (λ i. record { rule = h.owner i; symbols = h.is i })
      (Contains-get_or g.productions h.index (record { rule = 0; symbols = [] }) h.used.within)

  -- a production whose symbols are nullable by used productions is used
  nullable_used : (r : ℕ) (symbols : List Sym) → P r symbols → AreNullable (Nullable U) symbols → U r symbols
  nullable_used r symbols (index, within, at) all = record {
    index = index;
    used = record {
      within = within;
      productive = λ q h.
          ([], derives_as used_has (nullable_among (Nullable U) symbols all q (subst (λ l. Contains l (Rule q)) (λ i. (is i).symbols) h)));
    };
    owner = λ i. (is i).rule;
    is = λ i. (is i).symbols;
  }
    where
      is : nth_production g index ≡ record { rule = r; symbols = symbols }
      is = get_or_default g.productions index _ _ within ∙ at

  used_closed : IsClosed P (Nullable U) (λ r t. Unit {0})
  used_closed r symbols has = record {
    empty = λ all. derives_trans U (derives_production U r symbols (nullable_used r symbols has all)) (nullable_derives U symbols all);
    first = λ t h. tt;
  }

  pub nullable_by_used : (symbols : List Sym) → Derives P symbols [] ↔ Derives U symbols []
  nullable_by_used symbols = (
    (λ d. nullable_derives U symbols (nullable_derived P (Nullable U) (λ r t. Unit {0}) used_closed d tt)),
    (λ d. derives_as used_has d),
  )
