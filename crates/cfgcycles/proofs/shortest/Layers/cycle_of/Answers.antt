use Rattle.std.proofs.Common.{None, arith, sym, ap, subst, ◌<◌, ◌∷◌, ◌++◌, [], ◌∙◌}
use Rattle.std.proofs.lemmas.List.{get_or_default}
use Rattle.cfgcycles.proofs.Ending.{all_read, before_read, before_seen, before_shorter, before_within, last_read, none_noted_before}
use Rattle.cfgcycles.proofs.shortest.Layers.cycle_of.Goals as goal

pub loop-found-init : goal.loop-found-init
loop-found-init c =
    let table = c.args.self.now.found.items in
    last_read _ table _ c.requires.layers c.in-Some.last
    (get_or_default table c.args.rule None c.index.result.now c.requires.rule ∙ sym c.index.ensures ∙ c.in-Some.is)
    c.push.new.self.items (c.in_ok-push.ensures.items ∙ ap (λ l. l ++ c.in-Some.last.step ∷ []) c.in_ok-path.ensures.items)

pub index-requires-in-loop-found : goal.index-requires-in-loop-found
index-requires-in-loop-found c =
    let within = before_within _ _ _ c.requires.layers c.in-Some.last _ _ c.loop-found.invariant (omega (arith, c.loop-found-test.true)) in
    subst (λ n. c.loop-found.found.from < n) (sym c.args.self.now.found.ok.0) within

pub returns-in_default-index : goal.returns-in_default-index
returns-in_default-index c =
    let more : 1 < c.loop-found.found.length = omega (arith, c.loop-found-test.true) in
    let seen = before_seen _ _ _ c.requires.layers c.in-Some.last _ _ c.loop-found.invariant more c.index-in-loop-found.result.now c.index-in-loop-found.ensures in
    absurd (none_noted_before _ _ _ c.requires.layers c.in-Some.last _ _ c.loop-found.invariant more
    (seen ∙ c.in_default-index.is))

pub loop-found-smaller : goal.loop-found-smaller
loop-found-smaller c =
    let more : 1 < c.loop-found.found.length = omega (arith, c.loop-found-test.true) in
    let seen = before_seen _ _ _ c.requires.layers c.in-Some.last _ _ c.loop-found.invariant more c.index-in-loop-found.result.now c.index-in-loop-found.ensures in
    before_shorter _ _ _ c.requires.layers c.in-Some.last _ _ c.loop-found.invariant more c.in-Some-index.before
    (seen ∙ c.in-Some-index.is)

pub loop-found-preserved : goal.loop-found-preserved
loop-found-preserved c =
    let more : 1 < c.loop-found.found.length = omega (arith, c.loop-found-test.true) in
    let seen = before_seen _ _ _ c.requires.layers c.in-Some.last _ _ c.loop-found.invariant more c.index-in-loop-found.result.now c.index-in-loop-found.ensures in
    before_read _ _ _ c.requires.layers c.in-Some.last _ _ c.loop-found.invariant more c.in-Some-index.before
    (seen ∙ c.in-Some-index.is)
    _ c.in_ok-push-2.ensures.items

pub returns : goal.returns
returns c =
    let table = c.args.self.now.found.items in
    all_read _ _ _ c.requires.layers c.in-Some.last _ _ c.loop-found.invariant (omega (arith, c.loop-found-test.false))
    (get_or_default table c.args.rule None c.index.result.now c.requires.rule ∙ sym c.index.ensures ∙ c.in-Some.is) _ c.reverse.ensures.items
