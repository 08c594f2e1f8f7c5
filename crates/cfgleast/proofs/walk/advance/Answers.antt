use Rattle.std.proofs.Common.{◌≡◌, ◌<◌, ◌≤◌, All, List, length, map, take, arith, refl, sym, ap, subst, ◌∙◌}
use Rattle.std.proofs.lemmas.List.{length-map}
use Rattle.std.proofs.lemmas.Result.{on_ok_weaker}
use Rattle.std.specs.List.{slice_index}
use Rattle.derivation.specs.Grammar.{Sym}
use Rattle.cfgtables.specs.NumberedSymbols.{sym_of}
use Rattle.cfgtables.specs.Openings.{nth_production}
use Rattle.derivation.specs.CostLists.{IsListed, rule_cost}
use Rattle.cfgleast.specs.CutSums.{IsCutSum, StopsAt}
use Rattle.cfgleast.specs.Inner.Open.{AreBests, MovesOn, Enqueues, waits}
use Rattle.derivation.proofs.Listed.{symbols_listed}
use Rattle.cfgleast.proofs.Settles.{owner_within}
use Rattle.cfgleast.proofs.Walked.{enqueued_bests, enqueued_moves, stop_listed, stop_waits}
use Rattle.cfgleast.proofs.walk.advance.Given.{Over}
use Rattle.cfgleast.proofs.walk.advance.Goals.{After-from-rule}
use Rattle.cfgleast.proofs.walk.advance.Goals as goal

owner : (g : Over) (c : After-from-rule g) → c.from-rule.result ≡ (nth_production (g.T.Tables.grammar c.args.grm.now) c.args.partial.production).rule
owner g c = c.from-rule.ensures ∙ c.prod_to_rule.ensures ∙ ap (λ n. (nth_production (g.T.Tables.grammar c.args.grm.now) n).rule) c.to_storage.ensures

within : (g : Over) (c : After-from-rule g) → (nth_production (g.T.Tables.grammar c.args.grm.now) c.args.partial.production).rule < length c.args.bests.now
within g c = subst (λ n. (nth_production (g.T.Tables.grammar c.args.grm.now) c.args.partial.production).rule < n) (sym c.requires.bests.rules)
    (owner_within (g.T.Tables.grammar c.args.grm.now) c.args.partial.production c.requires.input.grammar c.requires.partial.index)

pub enqueue-requires : goal.enqueue-requires
enqueue-requires g c =
    let at = (goal.at.enqueue-requires g c).After-from-rule in
    subst (λ n. n < length c.args.bests.now) (sym (owner g at)) (within g at)

whole : (g : Over) (c : After-from-rule g) → IsCutSum (slice_index c.args.costs.now) (rule_cost c.args.least.now)
    (nth_production (g.T.Tables.grammar c.args.grm.now) c.args.partial.production).symbols c.in-Ok.sum
whole g c = subst (λ (a : List Sym). IsCutSum (slice_index c.args.costs.now) (rule_cost c.args.least.now) a c.in-Ok.sum)
    (c.prod-symbols.ensures ∙ ap (λ n. (nth_production (g.T.Tables.grammar c.args.grm.now) n).symbols) c.to_storage.ensures) c.in-Ok.ensures.whole

pub returns-in-Ok-clause-moves : goal.returns-in-Ok-clause-moves
returns-in-Ok-clause-moves g c =
    let grammar = g.T.Tables.grammar c.args.grm.now in
    let at = (goal.at.returns-in-Ok-clause-moves g c).After-from-rule in
    let p = c.args.partial.production in
    on_ok_weaker {Q = MovesOn (slice_index c.args.costs.now) (rule_cost c.args.least.now) grammar p c.args.queue.now c.enqueue.new.queue c.args.waiting.now c.args.waiting.now}
    c.enqueue.result (λ (o : Enqueues c.from-rule.result c.in-Ok.sum p c.args.queue.now c.enqueue.new.queue c.args.bests.now c.enqueue.new.bests).
    enqueued_moves (slice_index c.args.costs.now) (rule_cost c.args.least.now) grammar p c.in-Ok.sum (whole g at) _ _ _ _ c.requires.bests c.args.waiting.now (within g at)
    (subst (λ n. Enqueues n c.in-Ok.sum p c.args.queue.now c.enqueue.new.queue c.args.bests.now c.enqueue.new.bests) (owner g at) o)) c.enqueue.ensures

pub returns-in-Ok-clause-bests : goal.returns-in-Ok-clause-bests
returns-in-Ok-clause-bests g c =
    let grammar = g.T.Tables.grammar c.args.grm.now in
    let at = (goal.at.returns-in-Ok-clause-bests g c).After-from-rule in
    let p = c.args.partial.production in
    on_ok_weaker {Q = AreBests (slice_index c.args.costs.now) (rule_cost c.args.least.now) grammar c.enqueue.new.queue c.enqueue.new.bests}
    c.enqueue.result (λ (o : Enqueues c.from-rule.result c.in-Ok.sum p c.args.queue.now c.enqueue.new.queue c.args.bests.now c.enqueue.new.bests).
    enqueued_bests (slice_index c.args.costs.now) (rule_cost c.args.least.now) grammar p c.in-Ok.sum (whole g at) _ _ _ _ c.requires.bests (within g at)
    (subst (λ n. Enqueues n c.in-Ok.sum p c.args.queue.now c.enqueue.new.queue c.args.bests.now c.enqueue.new.bests) (owner g at) o)) c.enqueue.ensures

pub returns-in-Err-clause-moves : goal.returns-in-Err-clause-moves
returns-in-Err-clause-moves g c =
    let grammar = g.T.Tables.grammar c.args.grm.now in
    let symbols = c.prod-symbols.ensures ∙ ap (λ n. (nth_production grammar n).symbols) c.to_storage.ensures in
    let cost = slice_index c.args.costs.now in
    let settled = rule_cost c.args.least.now in
    let stop = subst (λ (a : List Sym). StopsAt cost settled a c.in-Err.rule c.in-Err.partial) symbols c.in-Err.ensures.stop in
    let listed = symbols_listed grammar c.args.partial.production c.requires.input.grammar c.requires.partial.index in
    let within = subst (λ n. c.in-Err.rule < n) (sym c.requires.lists)
    (stop_listed cost settled grammar (nth_production grammar c.args.partial.production).symbols grammar.rules grammar.tokens c.in-Err.rule c.in-Err.partial listed stop) in
    on_ok_weaker {Q = MovesOn cost settled grammar c.args.partial.production c.args.queue.now c.args.queue.now c.args.waiting.now c.push.new.self}
    c.push.result (λ put. waits c.in-Err.rule c.in-Err.partial c.in-Err.ensures.same
    (stop_waits cost settled grammar c.args.partial.production c.in-Err.rule c.in-Err.partial c.requires.partial.index c.in-Err.ensures.same stop) stop.unset within refl put) c.push.ensures.ok

pub returns-in-Err-clause-bests : goal.returns-in-Err-clause-bests
returns-in-Err-clause-bests g c = on_ok_weaker {Q = AreBests (slice_index c.args.costs.now) (rule_cost c.args.least.now) (g.T.Tables.grammar c.args.grm.now) c.args.queue.now c.args.bests.now}
    c.push.result (λ put. c.requires.bests) c.push.ensures.ok

pub to_storage-requires : goal.to_storage-requires
to_storage-requires g c =
    omega (arith, c.requires.partial.index, c.requires.input.positions)

pub prod-symbols-requires : goal.prod-symbols-requires
prod-symbols-requires g c = subst (λ n. n < length (g.T.Tables.grammar c.args.grm.now).productions) (sym c.to_storage.ensures) c.requires.partial.index

pub walk-requires-clause-listed : goal.walk-requires-clause-listed
walk-requires-clause-listed g c =
    let grammar = g.T.Tables.grammar c.args.grm.now in
    let symbols = c.prod-symbols.ensures ∙ ap (λ n. (nth_production grammar n).symbols) c.to_storage.ensures in
    let sequence = map (sym_of g.S.Storage.number) c.prod-symbols.result.now in
    let listed = subst (All (IsListed grammar.rules grammar.tokens)) (sym symbols)
    (symbols_listed grammar c.args.partial.production c.requires.input.grammar c.requires.partial.index) in
    subst (λ n. All (IsListed n (length c.args.costs.now)) sequence) (sym c.requires.input.rules)
    (subst (λ n. All (IsListed grammar.rules n) sequence) (sym c.requires.input.tokens) listed)

pub walk-requires-clause-taken : goal.walk-requires-clause-taken
walk-requires-clause-taken g c =
    let grammar = g.T.Tables.grammar c.args.grm.now in
    let symbols = c.prod-symbols.ensures ∙ ap (λ n. (nth_production grammar n).symbols) c.to_storage.ensures in
    subst (λ n. c.args.partial.taken ≤ n) (sym (ap length symbols) ∙ length-map c.prod-symbols.result.now (sym_of g.S.Storage.number)) c.requires.partial.taken

pub walk-requires-clause-sum : goal.walk-requires-clause-sum
walk-requires-clause-sum g c =
    let grammar = g.T.Tables.grammar c.args.grm.now in
    let symbols = c.prod-symbols.ensures ∙ ap (λ n. (nth_production grammar n).symbols) c.to_storage.ensures in
    subst (λ (a : List Sym). IsCutSum (slice_index c.args.costs.now) (rule_cost c.args.least.now) (take c.args.partial.taken a) c.args.partial.sum) (sym symbols) c.requires.partial.sum

pub prod_to_rule-requires : goal.prod_to_rule-requires
prod_to_rule-requires g c = subst (λ n. n < length (g.T.Tables.grammar c.args.grm.now).productions) (sym c.to_storage.ensures) c.requires.partial.index
