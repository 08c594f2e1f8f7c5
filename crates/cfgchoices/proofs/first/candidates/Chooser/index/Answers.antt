use Rattle.std.proofs.Common.{◌≡◌, get_or, sym, ap, ◌∙◌, arith}
use Rattle.std.proofs.lemmas.List.{get_or-map, length-map}
use Rattle.cfgindex.specs.declared.idxnewtype.PIdx.{PIdx}
use Rattle.cfgchoices.specs.Inner.Candidates.{candidates_of}
use Rattle.cfgchoices.proofs.Located.{middle_nominated, to_back, to_prefix}
use Rattle.cfgchoices.proofs.first.candidates.Chooser.index.Given.{Over}
use Rattle.cfgchoices.proofs.first.candidates.Chooser.index.Goals.{After-index}
use Rattle.cfgchoices.proofs.first.candidates.Chooser.index.Goals as goal

middle : (g : Over) (c : After-index g) → get_or (candidates_of g.S.Storage.number c.args.self.now).sorted c.probe-middle.result 0 ≡ g.S.Storage.number c.index.result.now.0
middle g c =
    let len = length-map c.args.self.now.sorted.items (λ p. g.S.Storage.number p.0) in
    get_or-map (λ (p : PIdx _). g.S.Storage.number p.0) c.args.self.now.sorted.items c.probe-middle.result c.index.result.now 0 (omega (arith, c.probe-middle.ensures.to, c.loop-low.invariant.within, len))
    ∙ ap (λ (p : PIdx _). g.S.Storage.number p.0) (sym c.index.ensures)

pub loop-low-init : goal.loop-low-init
loop-low-init g c =
    let len = length-map c.args.self.now.sorted.items (λ p. g.S.Storage.number p.0) in
    record {
      within = omega (arith, len);
      ordered = omega arith;
      before = λ i lt. absurd (omega (arith, lt));
      after = λ i le lt. absurd (omega (arith, le, lt, len));
    }

pub index-requires : goal.index-requires
index-requires g c =
    let len = length-map c.args.self.now.sorted.items (λ p. g.S.Storage.number p.0) in
    omega (arith, c.loop-low.invariant.within, len, c.probe-middle.ensures.to)

pub compare-requires-clause-one : goal.compare-requires-clause-one
compare-requires-clause-one g c = middle_nominated _ _ c.requires.candidates _ _ _ _ _ c.loop-low.invariant c.probe-middle.ensures.from c.probe-middle.ensures.to
    (middle g (goal.at.compare-requires-clause-one g c).After-index)

pub loop-low-preserved-then-is_lt : goal.loop-low-preserved-then-is_lt
loop-low-preserved-then-is_lt g c = to_prefix _ _ c.requires.candidates _ _ _ _ _ c.loop-low.invariant c.probe-middle.ensures.from c.probe-middle.ensures.to
    (middle g (goal.at.loop-low-preserved-then-is_lt g c).After-index) _ c.in_ok-compare.ensures (sym c.is_lt.ensures ∙ c.if-is_lt.true)

pub loop-low-preserved : goal.loop-low-preserved
loop-low-preserved g c = to_back _ _ c.requires.candidates _ _ _ _ _ c.loop-low.invariant c.probe-middle.ensures.from c.probe-middle.ensures.to
    (middle g (goal.at.loop-low-preserved g c).After-index) _ c.in_ok-compare.ensures (sym c.is_lt.ensures ∙ c.if-is_lt.false)

pub probe-middle-requires : goal.probe-middle-requires
probe-middle-requires g c = c.loop-low-test.true

pub compare-requires-clause-choosing : goal.compare-requires-clause-choosing
compare-requires-clause-choosing g c = c.requires.candidates.choosing

pub compare-requires-clause-other : goal.compare-requires-clause-other
compare-requires-clause-other g c = c.requires.nominated

pub loop-low-smaller-then-is_lt : goal.loop-low-smaller-then-is_lt
loop-low-smaller-then-is_lt g c = omega (arith, c.probe-middle.ensures.from, c.probe-middle.ensures.to)

pub loop-low-smaller : goal.loop-low-smaller
loop-low-smaller g c = omega (arith, c.probe-middle.ensures.from, c.probe-middle.ensures.to)

pub returns : goal.returns
returns g c =
    let len = length-map c.args.self.now.sorted.items (λ p. g.S.Storage.number p.0) in
    let at = c.loop-low.invariant in
    record {
      within = omega (arith, at.within, at.ordered, len);
      before = at.before;
      after = λ i le lt. at.after i (omega (arith, le, c.loop-low-test.false)) (omega (arith, lt, len));
    }
