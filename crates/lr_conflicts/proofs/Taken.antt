-- Which productions are reduced at a token, and whether it is shifted, by the productions that can be reduced.
use Rattle.std.proofs.Common.{◌≡◌, ◌↔◌, ◌⊎◌, inl, inr, ℕ, ◌+◌, ◌<◌, ◌≤◌, Bool, List, [], ◌∷◌, ◌++◌, Option, None, Some, Contains, IsTrue, MatchOption, get_or, length, take, refl, sym, subst, arith}
use Rattle.std.specs.List.Sorted.{IsStrictlyIncreasing}
use Rattle.std.proofs.lemmas.Bool.{cases_lt}
use Rattle.std.proofs.lemmas.List.Elements.{Contains-append_left, Contains-push, Contains-push_cases}
use Rattle.cfgrammar.specs.Associativity.{Associativity}
use Rattle.cfgrammar.specs.Numbered.{Numbered}
use Rattle.cfgrammar.specs.Precedence.{Precedence}
use Rattle.cfgrammar.proofs.Contained.{contains_source}
use Rattle.cfgrammar.proofs.Taken.{contains_taken}
use Rattle.lr_states.specs.declared.Item.{Item}
use Rattle.lr_conflicts.specs.Conflicts.{IsReduced, IsShifted, IsTakenAway, TakesShift}
use Rattle.lr_conflicts.specs.Inner.Choices.{AreReductions, IsFirstTaker, IsKept, IsReductionIn, IsTaker, IsTurn, Loses, Takes}
use Rattle.lr_conflicts.specs.Inner.Listed.{AreReduced}
use Rattle.lr_conflicts.specs.Precedences.{settled, token_precedence}
use Rattle.lr_conflicts.specs.declared.listed.Turn.{Turn}
use Rattle.lr_conflicts.specs.declared.parser.Reduction.{Reduction}
use Rattle.lr_conflicts.specs.declared.precedences.Settled.{Settled}
use Rattle.lr_conflicts.specs.declared.precedences.Settled.TheVariants.{Shift, Reduce, Neither}
use Rattle.lr_conflicts.proofs.Ascending.{ascending_push, before_smaller, smaller_before}

abbrev production_of : Reduction → ℕ
production_of r = r.production

-- the productions of those of some reductions that are kept
pub record AreKept (g : Numbered) (levels : List Associativity) (turn : Turn) (rs : List Reduction) (productions : List ℕ) : Type 0 where
  pub each : (p : ℕ) → Contains productions p → (r : Reduction) × Contains rs r × (r.production ≡ p) × IsKept g levels turn r
  pub all : (r : Reduction) → Contains rs r → IsKept g levels turn r → Contains productions r.production
  pub ascending : IsStrictlyIncreasing productions

module _ (g : Numbered) (levels : List Associativity) (items : List Item) where
  -- of a production with this precedence it says one of these
  abbrev SaysOne : ℕ → Settled → Settled → Option Precedence → Type 0
  SaysOne t a b precedence = (settled levels (token_precedence g t) precedence ≡ Some a) ⊎ (settled levels (token_precedence g t) precedence ≡ Some b)

  -- what precedence says of a reduction it says of its production
  module _ (t : ℕ) (r : Reduction) (is : IsReductionIn g levels items r) (within : t < length g.tokens) where
    takes_shift : Takes g levels t r → TakesShift g levels items t r.production
    takes_shift h = record { reduces = (is.comes t within).0 h.0; says = subst (SaysOne t Reduce Neither) is.precedence h.1 }

    takes_by : TakesShift g levels items t r.production → Takes g levels t r
    takes_by h = ((is.comes t within).1 h.reduces, subst (SaysOne t Reduce Neither) (sym is.precedence) h.says)

  module _ (rs : List Reduction) (are : AreReductions g levels items rs) where
    module _ (t : ℕ) (within : t < length g.tokens) where
      taken_by : (p : ℕ) → TakesShift g levels items t p → (r : Reduction) × Contains rs r × (r.production ≡ p) × Takes g levels t r
      taken_by p takes =
          let (r, among, same) = contains_source production_of rs p (are.all t p takes.reduces) in
          (r, among, same, takes_by t r (are.each r among) within (subst (TakesShift g levels items t) (sym same) takes))

      pub none_takes : ((r : Reduction) → Contains rs r → Takes g levels t r → ⊥) → (p : ℕ) → TakesShift g levels items t p → ⊥
      none_takes none p takes = let (r, among, same, by) = taken_by p takes in none r among by

      pub first_takes : (i : ℕ) (r : Reduction) → i < length rs → r ≡ get_or rs i r → ((other : Reduction) → Contains (take i rs) other → Takes g levels t other → ⊥)
          → Takes g levels t r → IsFirstTaker g levels items t r.production
      first_takes i r lt is none takes = record {
        takes = takes_shift t r (are.each r (i, lt, sym is)) within takes;
        first = λ p smaller h.
            let (other, among, same, by) = taken_by p h in
            none other (smaller_before production_of rs are.ascending i r lt is other among (subst (λ n. n < r.production) (sym same) smaller)) by;
      }

  module _ (t : ℕ) where
    none_before : (p : ℕ) (taker : Option ℕ) → IsTaker g levels items t taker → MatchOption taker (Unit {0}) (λ q. p ≤ q)
        → (other : ℕ) → other < p → TakesShift g levels items t other → ⊥
    none_before p None none h other smaller takes = none other takes
    none_before p (Some q) first most other smaller takes = first.first other (omega (arith, smaller, most)) takes

    before_none : (p : ℕ) (taker : Option ℕ) → IsTaker g levels items t taker → ((other : ℕ) → other < p → TakesShift g levels items t other → ⊥)
        → MatchOption taker (Unit {0}) (λ q. p ≤ q)
    before_none p None none left = tt
    before_none p (Some q) first left = elim (cases_lt q p) [ inl smaller ↦ absurd (left q smaller first.takes) | inr most ↦ most ]

    no_taker : (taker : Option ℕ) → IsTaker g levels items t taker → ((p : ℕ) → TakesShift g levels items t p → ⊥) → taker ≡ None
    no_taker None none left = refl
    no_taker (Some q) first left = absurd (left q first.takes)

  module _ (turn : Turn) (is : IsTurn g levels items turn) where
    pub shifted_is : (shifts : Bool) → IsTrue shifts ↔ (IsTrue turn.can_shift × (turn.taker ≡ None)) → IsTrue shifts ↔ IsShifted g levels items turn.token
    shifted_is shifts known = (
      (λ yes. let h = known.0 yes in record { shift = is.can.0 h.0; left = subst (IsTaker g levels items turn.token) h.1 (is.taker h.0) }),
      (λ h. let can = is.can.1 h.shift in known.1 (can, no_taker turn.token turn.taker (is.taker can) h.left)),
    )

    module _ (r : Reduction) (of : IsReductionIn g levels items r) where
      lost : Loses g levels turn r → IsTakenAway g levels items turn.token r.production
      lost h = record {
        shift = is.can.0 h.0.0;
        earlier = none_before turn.token r.production turn.taker (is.taker h.0.0) h.0.1;
        says = subst (SaysOne turn.token Shift Neither) of.precedence h.1;
      }

      taken : IsTakenAway g levels items turn.token r.production → Loses g levels turn r
      taken h = let can = is.can.1 h.shift in ((can, before_none turn.token r.production turn.taker (is.taker can) h.earlier), subst (SaysOne turn.token Shift Neither) (sym of.precedence) h.says)

      kept_reduced : IsKept g levels turn r → IsReduced g levels items turn.token r.production
      kept_reduced h = record { reduces = (of.comes turn.token is.within).0 h.0; left = λ away. h.1 (taken away) }

      reduced_kept : IsReduced g levels items turn.token r.production → IsKept g levels turn r
      reduced_kept h = ((of.comes turn.token is.within).1 h.reduces, λ loses. h.left (lost loses))

    module _ (rs : List Reduction) (are : AreReductions g levels items rs) where
      module _ (i : ℕ) (r : Reduction) (within : i < length rs) (at : r ≡ get_or rs i r) (productions : List ℕ) (so_far : AreKept g levels turn (take i rs) productions) where
        earlier : (other : Reduction) → Contains (take i rs) other → Contains (take (i + 1) rs) other
        earlier other h = (contains_taken rs i r within at other).1 (inl h)

        pub kept_skip : (IsKept g levels turn r → ⊥) → AreKept g levels turn (take (i + 1) rs) productions
        kept_skip dropped = record {
          each = λ p h. let (other, among, same, kept) = so_far.each p h in (other, earlier other among, same, kept);
          all = λ other among kept. elim ((contains_taken rs i r within at other).0 among) [
            | inl early ↦ so_far.all other early kept
            | inr same ↦ absurd (dropped (subst (IsKept g levels turn) same kept))
          ];
          ascending = so_far.ascending;
        }

        pub kept_more : IsKept g levels turn r → (new : List ℕ) → new ≡ productions ++ r.production ∷ [] → AreKept g levels turn (take (i + 1) rs) new
        kept_more kept new is = subst (AreKept g levels turn (take (i + 1) rs)) (sym is) (record {
          each = λ p h. elim (Contains-push_cases productions r.production p h) [
            | inl early ↦ let (other, among, same, other_kept) = so_far.each p early in (other, earlier other among, same, other_kept)
            | inr same ↦ (r, (contains_taken rs i r within at r).1 (inr refl), same, kept)
          ];
          all = λ other among other_kept. elim ((contains_taken rs i r within at other).0 among) [
            | inl early ↦ Contains-append_left productions (r.production ∷ []) other.production (so_far.all other early other_kept)
            | inr same ↦ subst (λ (x : Reduction). Contains (productions ++ r.production ∷ []) x.production) (sym same) (Contains-push productions r.production)
          ];
          ascending = ascending_push productions r.production so_far.ascending (λ p h.
              let (other, among, same, other_kept) = so_far.each p h in
              subst (λ n. n < r.production) same (before_smaller production_of rs are.ascending i r within at other among));
        })

      pub kept_all : (productions : List ℕ) → AreKept g levels turn rs productions → AreReduced g levels items turn.token productions
      kept_all productions all = record {
        all = λ p. (
          (λ h.
              let (r, among, same, kept) = all.each p h in
              subst (IsReduced g levels items turn.token) same (kept_reduced r (are.each r among) kept)),
          (λ h.
              let (r, among, same) = contains_source production_of rs p (are.all turn.token p h.reduces) in
              subst (Contains productions) same (all.all r among (reduced_kept r (are.each r among) (subst (IsReduced g levels items turn.token) (sym same) h)))),
        );
        ascending = all.ascending;
      }
