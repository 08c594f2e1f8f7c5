use Rattle.std.proofs.Common.{◌<◌, arith, length, subst}
use Rattle.std.proofs.lemmas.List.{length-map}
use Rattle.cfgrammar.specs.Numbered.{production_core}
use Rattle.lr_conflicts.specs.Inner.Searches.{setting}
use Rattle.lr_conflicts.specs.Inner.Ways.{Unfolds, UnfoldsWith}
use Rattle.lr_conflicts.proofs.Entering.{among_all, among_more, position_is}
use Rattle.lr_conflicts.proofs.examples.ways.Ways.unfold.Goals as goal

pub unfold_by-requires-clause-within : goal.unfold_by-requires-clause-within
unfold_by-requires-clause-within c =
    let lt : c.loop-production.production-index < length c.productions_of-production-items.result.now = omega (arith, c.loop-production-test.true) in
    subst (λ n. c.from.result < n) (length-map c.args.self.now.grammar.now.productions production_core)
    (position_is (setting c.args.self.now) c.args.at.first c.productions_of-production-items.result.now c.productions_of-production-items.ensures c.loop-production.production-index c.from.result (record { 0 = 0 }) lt c.from.ensures).0

pub unfold_by-requires-clause-owner : goal.unfold_by-requires-clause-owner
unfold_by-requires-clause-owner c =
    let lt : c.loop-production.production-index < length c.productions_of-production-items.result.now = omega (arith, c.loop-production-test.true) in
    (position_is (setting c.args.self.now) c.args.at.first c.productions_of-production-items.result.now c.productions_of-production-items.ensures c.loop-production.production-index c.from.result (record { 0 = 0 }) lt c.from.ensures).1

pub loop-production-preserved : goal.loop-production-preserved
loop-production-preserved c =
    let w = setting c.args.self.now in
    let lt : c.loop-production.production-index < length c.productions_of-production-items.result.now = omega (arith, c.loop-production-test.true) in
    among_more w c.args.at.first c.productions_of-production-items.result.now c.productions_of-production-items.ensures
    (UnfoldsWith w c.args.at.place c.args.at.rule) c.loop-production.production-index c.from.result (record { 0 = 0 }) lt c.from.ensures
    _ _ _ c.loop-production.invariant c.in_ok-unfold_by.ensures

pub returns : goal.returns
returns c =
    let w = setting c.args.self.now in
    among_all w c.args.at.first c.productions_of-production-items.result.now c.productions_of-production-items.ensures
    (UnfoldsWith w c.args.at.place c.args.at.rule) (Unfolds w c.args.at.place c.args.at.rule c.args.at.first)
    (λ n h. (h.production, h.used.within, h.owner, (h.used, h.shows))) c.loop-production.production-index (omega (arith, c.loop-production-test.false))
    _ _ c.loop-production.invariant
