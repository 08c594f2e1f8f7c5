use Rattle.std.proofs.Common.{None, length, arith, sym, ap, ◌∙◌}
use Rattle.std.proofs.lemmas.List.{length-replicate}
use Rattle.cfgcycles.proofs.Forgetting.{nothing_left}
use Rattle.cfgcycles.proofs.groups.group_of.Goals as goal

pub clear-requires : goal.clear-requires
clear-requires c = λ rule h.
    let long = ap length c.requires.found ∙ length-replicate (length c.args.layers.now.steps.now) None in
    omega (arith, c.requires.inside rule h, c.in_ok-found.ensures.entries, long)

pub returns-in_ok-rules-in-Some-clause-found : goal.returns-in_ok-rules-in-Some-clause-found
returns-in_ok-rules-in-Some-clause-found c =
    let long = ap length c.requires.found ∙ length-replicate (length c.args.layers.now.steps.now) None in
    nothing_left _ c.find_cycle.new.layers.found.items _ c.args.rules.now (c.clear.ensures.entries ∙ c.in_ok-found.ensures.entries ∙ long)
    (λ rule found is. c.requires.all rule (c.in_ok-found.ensures.found rule found is)) c.clear.ensures.found ∙ sym c.requires.found

pub returns-in-None-clause-found : goal.returns-in-None-clause-found
returns-in-None-clause-found c =
    let long = ap length c.requires.found ∙ length-replicate (length c.args.layers.now.steps.now) None in
    nothing_left _ c.find_cycle.new.layers.found.items _ c.args.rules.now (c.clear.ensures.entries ∙ c.in_ok-found.ensures.entries ∙ long)
    (λ rule found is. c.requires.all rule (c.in_ok-found.ensures.found rule found is)) c.clear.ensures.found ∙ sym c.requires.found
