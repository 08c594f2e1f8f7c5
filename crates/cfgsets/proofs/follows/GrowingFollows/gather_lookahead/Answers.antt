use Rattle.std.proofs.Common.{◌≡◌, ◌<◌, ◌↔◌, ℕ, List, Bool, false, length, replicate, subst, sym, ap, ◌∙◌}
use Rattle.std.proofs.lemmas.List.{length-replicate}
use Rattle.derivation.specs.Grammar.{Grammar}
use Rattle.cfgindex.specs.BitWords.{AreWords, bits_of}
use Rattle.cfgsets.specs.Table.{HasBit, row_of}
use Rattle.cfgsets.specs.Inner.Joined.{joined}
use Rattle.cfgsets.specs.GrowingFollows.{FollowSets}
use Rattle.cfgsets.specs.Inner.Lookaheads.{FitFollows, LookaheadHas, Gathers, IsLookaheadOf, IsGathered}
use Rattle.cfgsets.proofs.Joins.{row_wide}
use Rattle.cfgsets.proofs.Gathering.{gathers_row, anew_long, anew_tokens}
use Rattle.cfgsets.proofs.follows.GrowingFollows.gather_lookahead.Goals as goal

pub gather_first-requires : goal.gather_first-requires
gather_first-requires g c = (
  c.requires.0,
  c.requires.1,
  ap length c.set_all-in-Symbol.ensures ∙ length-replicate _ false ∙ c.requires.4,
  subst (IsLookaheadOf g.S.Storage.number c.requires.0) c.in-Symbol.is c.requires.3,
)

-- a list with no bit on is as wide as the rows
bare_wide : (grm : Grammar) (x : FollowSets) (old none : List Bool) → FitFollows grm x → length old ≡ grm.tokens → none ≡ replicate (length old) false
    → length none ≡ x.follows.columns
bare_wide grm x old none fits wide bare = ap length bare ∙ length-replicate (length old) false ∙ wide ∙ sym fits.follows.width

-- what follows the rule, gathered when nothing was gathered before
gathers_follows : (grm : Grammar) (x : FollowSets) (rule columns : ℕ) (old none new : List Bool) (words : List ℕ) → FitFollows grm x → rule < grm.rules
    → length old ≡ grm.tokens → none ≡ replicate (length old) false → columns ≡ x.follows.columns → bits_of words columns ≡ row_of x.follows rule
    → new ≡ joined none (bits_of words (length none)) → Gathers (HasBit x.follows rule) none new
gathers_follows grm x rule columns old none new words fits lt wide bare same is put = gathers_row _ (row_of x.follows rule) none new
    (bare_wide grm x old none fits wide bare ∙ fits.follows.width ∙ sym (row_wide _ _ x.follows fits.follows rule lt))
    (put ∙ ap (λ n. joined none (bits_of words n)) (bare_wide grm x old none fits wide bare ∙ sym same) ∙ ap (joined none) is) (λ t h. h) (λ t h. h)

pub or_words-requires : goal.or_words-requires
or_words-requires g c = subst (λ n. AreWords n c.row.result.now)
    (ap (λ x. x.follows.columns) c.self.view_is ∙ sym (bare_wide c.requires.0 c.args.self.now _ _ c.requires.1 c.requires.4 c.set_all.ensures))
    c.row.ensures.words

pub returns-in-End-clause-length : goal.returns-in-End-clause-length
returns-in-End-clause-length g c = anew_long _ _ _ _ c.set_all.ensures
    (gathers_follows c.requires.0 c.args.self.now (g.S.Storage.number c.args.rule.0) _ _ _ _ _ c.requires.1 c.requires.2 c.requires.4 c.set_all.ensures
    (ap (λ x. x.follows.columns) c.self.view_is)
    (c.row.ensures.bits ∙ ap (row_of c.self.inside.follows) c.from.ensures
    ∙ ap (λ x. row_of x.follows (g.S.Storage.number c.args.rule.0)) c.self.view_is) c.or_words.ensures.bits)

pub returns-in-End-clause-tokens : goal.returns-in-End-clause-tokens
returns-in-End-clause-tokens g c =
    subst (λ f. (t : ℕ) → (IsGathered c.or_words.new.self t
    ↔ LookaheadHas g.S.Storage.number c.args.self.now (g.S.Storage.number c.args.rule.0) c.args.gathered.now f t)) (sym c.in-End.is)
    (anew_tokens _ _ _ _ c.set_all.ensures
    (gathers_follows c.requires.0 c.args.self.now (g.S.Storage.number c.args.rule.0) _ _ _ _ _ c.requires.1 c.requires.2 c.requires.4 c.set_all.ensures
    (ap (λ x. x.follows.columns) c.self.view_is)
    (c.row.ensures.bits ∙ ap (row_of c.self.inside.follows) c.from.ensures
    ∙ ap (λ x. row_of x.follows (g.S.Storage.number c.args.rule.0)) c.self.view_is) c.or_words.ensures.bits))
