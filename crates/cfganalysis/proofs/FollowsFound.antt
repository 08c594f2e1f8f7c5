-- FOLLOW sets by exact FIRST sets: the sets while they are computed, and when they are complete.
use Rattle.std.proofs.Common.{◌≡◌, ◌-◌, ℕ, inl, inr, sym, ◌∙◌, subst}
use Rattle.std.proofs.lemmas.List.{get_or_default}
use Rattle.derivation.specs.Grammar.{Grammar, HasProduction, IsGrammar, Production}
use Rattle.derivation.specs.FirstSets.{IsClosed}
use Rattle.derivation.specs.FollowSets.{IsFollowClosed}
use Rattle.derivation.proofs.Firsts.{nullable_map, begins_map, derived_closed}
use Rattle.derivation.proofs.Follows.{closed_follow, closed_end}
use Rattle.cfgsets.specs.FirstSets.{FirstSets, AreSoundFirsts, IsAmongFirsts, IsNullableRule}
use Rattle.cfgsets.specs.GrowingFollows.{FollowSets, AreSoundFollows, CoverFollowsOf, CoversFollowIn, HasNoMoreFollows, IsOwner, count_follows}
use Rattle.cfgsets.specs.Growth.{AddsProduction, CoversEach}
use Rattle.cfgsets.specs.Table.{HasBit, no_bits, with_bit}
use Rattle.cfgsets.proofs.FollowVisits.{say_start}
use Rattle.cfganalysis.specs.Firsts.{AreFirsts}
use Rattle.cfganalysis.specs.Follows.{AreFollows}
use Rattle.cfganalysis.specs.Inner.FollowsSoFar.{AreFollowsSoFar}

-- exact sets contain nothing but what derivations show
pub sound_firsts : (g : Grammar) (x : FirstSets) → AreFirsts g x → AreSoundFirsts g x
sound_firsts g x are = record { fits = are.fits; first = λ r t. (are.first r t).0; empty = λ r. (are.empty r).0 }

-- at first the end token follows the start rule, and nothing else follows anything
pub so_far_start : (g : Grammar) (f f' : FirstSets) (x : FollowSets) (rules tokens : ℕ) → IsGrammar g → AreFirsts g f → rules ≡ g.rules → tokens ≡ g.tokens
    → f' ≡ f → x ≡ record { firsts = f'; follows = with_bit (no_bits rules tokens) 0 (tokens - 1) } → AreFollowsSoFar g x
so_far_start g f f' x rules tokens is are e h same start = subst (AreFollowsSoFar g) (sym start)
    (subst (λ y. AreFollowsSoFar g (record { firsts = y; follows = with_bit (no_bits rules tokens) 0 (tokens - 1) })) (sym same)
    (record { firsts = are; follows = say_start g f rules tokens is (sound_firsts g f are) e h }))

-- a production adds nothing to the FIRST sets
pub adds_so_far : (p : Production) (old mid new : FollowSets) (grown : ℕ → Type 0) → mid ≡ old → new.firsts ≡ mid.firsts
    → AddsProduction AreSoundFollows CoverFollowsOf count_follows IsOwner HasNoMoreFollows p mid new grown
    → AddsProduction AreFollowsSoFar CoverFollowsOf count_follows IsOwner HasNoMoreFollows p old new grown
adds_so_far p old mid new grown same e w =
    subst (λ x. AddsProduction AreFollowsSoFar CoverFollowsOf count_follows IsOwner HasNoMoreFollows p x new grown) same (record {
      sound = λ g is has h. record { firsts = subst (AreFirsts g) (sym e) h.firsts; follows = w.sound g is has h.follows };
      no_less = w.no_less;
      more = w.more;
      gains = w.gains;
      closed = w.closed;
      stays = w.stays;
    })

-- exact FIRST sets are closed
firsts_closed : (g : Grammar) (x : FirstSets) → AreFirsts g x → IsClosed (HasProduction g) (IsNullableRule x) (IsAmongFirsts x)
firsts_closed g x are r symbols has =
    let d = derived_closed (HasProduction g) r symbols has in
    record {
      empty = λ h. (are.empty r).1 (d.empty (nullable_map _ _ (λ q i. (are.empty q).0 i) symbols h));
      first = λ t h. (are.first r t).1 (d.first t (begins_map _ _ _ _ (λ q i. (are.empty q).0 i) (λ q u i. (are.first q u).0 i) symbols t h));
    }

-- sets that say nothing wrong, to which no production has anything to add, are exact
pub are_follows : (g : Grammar) (x : FollowSets) → AreFollowsSoFar g x → CoversEach CoverFollowsOf g x → AreFollows g x.follows
are_follows g x say covered = record {
  fits = say.follows.fits;
  follow = λ r t. (
    say.follows.follow r t,
    λ h. elim h [
      | inl f ↦ closed_follow (HasProduction g) _ _ _ closed covers r t f
      | inr e ↦ closed_end (HasProduction g) _ _ _ closed covers r t e.1 (say.follows.finish t e.0)
    ],
  );
}
  where
    closed : IsClosed (HasProduction g) (IsNullableRule x.firsts) (IsAmongFirsts x.firsts)
    closed = firsts_closed g x.firsts say.firsts

    covers : IsFollowClosed (HasProduction g) (IsNullableRule x.firsts) (IsAmongFirsts x.firsts) (HasBit x.follows)
    covers r symbols has = subst (λ (p : Production). CoversFollowIn x p.rule p.symbols)
        (get_or_default g.productions has.0 _ _ has.1 ∙ has.2) (covered has.0 has.1)
