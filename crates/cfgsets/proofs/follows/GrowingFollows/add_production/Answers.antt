use Rattle.std.proofs.Common.{◌≡◌, ◌+◌, ◌-◌, ◌<◌, map, length, arith, sym, ◌∙◌, subst, inl}
use Rattle.std.proofs.lemmas.List.{length-map}
use Rattle.derivation.specs.Grammar.{IsSymbolOf}
use Rattle.cfgsets.specs.FirstSets.{FitsGrammar}
use Rattle.cfgsets.specs.Inner.Lookaheads.{After, LookaheadHas}
use Rattle.cfgtables.specs.NumberedSymbols.{sym_of}
use Rattle.cfgtables.proofs.Located.{owner, all_symbols}
use Rattle.cfgtables.proofs.Slices.{mapped_all, mapped_drop, mapped_rest}
use Rattle.cfgsets.proofs.FollowVisits.{Flowing, flowing_none, flowing_one, flowing_all}
use Rattle.cfgsets.proofs.Gathering.{HasLookahead, has_lookahead_none, has_lookahead_one}
use Rattle.cfgsets.proofs.follows.GrowingFollows.add_production.Goals as goal

pub loop-index-init : goal.loop-index-init
loop-index-init g c = record {
  flowing = flowing_none _ _ _ _ _ (simp length-map (omega arith));
  has_lookahead = has_lookahead_none _ _ _ _ _ _ (simp length-map (omega arith));
}

pub put_after-requires : goal.put_after-requires
put_after-requires g c =
    let lt : c.loop-index.index - 1 < length c.args.symbols.now = omega (arith, c.loop-index-test.true, c.loop-index.auto.index) in
    let all = all_symbols c.requires.0 _ c.requires.1 c.requires.6 in
    let say = c.loop-index.invariant.flowing.sound c.requires.0 c.requires.1 c.requires.6 c.requires.2 in (
      c.requires.0,
      record { firsts = say.firsts.fits; follows = say.fits },
      c.loop-index.invariant.flowing.rules ∙ c.requires.4,
      owner _ _ c.requires.1 c.requires.6,
      mapped_all (sym_of g.S.Storage.number) _ _ _ c.index-symbols-index.is lt (IsSymbolOf c.requires.0) all,
      c.loop-index.invariant.has_lookahead.fits c.requires.0 all,
      c.loop-index.invariant.has_lookahead.long ∙ c.requires.5,
    )

pub lookahead_before-lookahead-requires : goal.lookahead_before-lookahead-requires
lookahead_before-lookahead-requires g c =
    let lt : c.loop-index.index - 1 < length c.args.symbols.now = omega (arith, c.loop-index-test.true, c.loop-index.auto.index) in
    let all = all_symbols c.requires.0 _ c.requires.1 c.requires.6 in
    let say = c.loop-index.invariant.flowing.sound c.requires.0 c.requires.1 c.requires.6 c.requires.2 in (
      c.requires.0,
      record {
        firsts = subst (FitsGrammar c.requires.0) (sym c.put_after.ensures.firsts) say.firsts.fits;
        follows = c.put_after.ensures.shape _ _ say.fits;
      },
      owner _ _ c.requires.1 c.requires.6,
      mapped_all (sym_of g.S.Storage.number) _ _ _ c.index-symbols-index.is lt (IsSymbolOf c.requires.0) all,
      c.loop-index.invariant.has_lookahead.fits c.requires.0 all,
      c.loop-index.invariant.has_lookahead.long ∙ c.requires.5,
    )

pub loop-index-preserved : goal.loop-index-preserved
loop-index-preserved g c =
    let number = g.S.Storage.number in
    let rule = number c.args.rule.0 in
    let symbols = map (sym_of number) c.args.symbols.now in
    let lt : c.loop-index.index - 1 < length c.args.symbols.now = omega (arith, c.loop-index-test.true, c.loop-index.auto.index) in
    let back : c.loop-index.index ≡ c.loop-index.index - 1 + 1 = omega (arith, c.loop-index-test.true) in
    let at = mapped_drop (sym_of number) c.args.symbols.now (c.loop-index.index - 1) _ c.index-symbols-index.is lt in
    let after = mapped_rest (sym_of number) c.args.symbols.now (c.loop-index.index - 1) _ c.index-symbols-index.is lt in
    let flowing = subst (λ n. Flowing rule symbols n c.args.self.now c.loop-index.self c.args.grown.now c.loop-index.grown)
    back c.loop-index.invariant.flowing in
    let has_lookahead = subst (λ n. HasLookahead number rule symbols n (length c.args.gathered.now) c.args.self.now c.loop-index.self
    c.loop-index.lookahead c.loop-index.gathered) back c.loop-index.invariant.has_lookahead in
    record {
      flowing = flowing_one _ _ _ _ _ (LookaheadHas number c.loop-index.self rule c.loop-index.gathered c.loop-index.lookahead) _ _ _ _ _ _ at after flowing
          (λ t h. has_lookahead.below c.loop-index.self flowing.firsts (λ r u i. i) t (subst (λ l. After c.args.self.now rule l t) after h))
          (λ t h. subst (λ l. After c.loop-index.self rule l t) (sym after) (has_lookahead.above c.loop-index.self flowing.firsts (λ r u i. i) t h))
          c.put_after.ensures;
      has_lookahead = has_lookahead_one number rule symbols _ _ _ _ _ _ _ _ _ _ _ at after
          (λ grm all. mapped_all (sym_of number) _ _ _ c.index-symbols-index.is lt (IsSymbolOf grm) all) has_lookahead
          (c.put_after.ensures.firsts ∙ flowing.firsts) (λ r t h. (c.put_after.ensures.bits r t).1 (inl h)) c.lookahead_before-lookahead.ensures;
    }

pub returns-clause-takes : goal.returns-clause-takes
returns-clause-takes g c = flowing_all _ _ _ _ _ _ _ (omega (arith, c.loop-index-test.false)) c.requires.3 c.loop-index.invariant.flowing

pub returns-clause-firsts : goal.returns-clause-firsts
returns-clause-firsts g c = c.loop-index.invariant.flowing.firsts

pub returns-clause-columns : goal.returns-clause-columns
returns-clause-columns g c =
    let say = c.loop-index.invariant.flowing.sound c.requires.0 c.requires.1 c.requires.6 c.requires.2 in
    say.fits.width ∙ sym c.requires.2.fits.width
