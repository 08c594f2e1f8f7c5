use Rattle.std.proofs.Common.{◌+◌, ◌<◌, length, ap, ◌∙◌, arith}
use Rattle.std.proofs.lemmas.List.{length_push}
use Rattle.std.proofs.lemmas.List.Elements.{All-push, All-same}
use Rattle.cfgcosts.proofs.TokenCosts.{costs_more}
use Rattle.cfgcosts.proofs.generator.token_costs.Goals as goal

pub loop-number-preserved : goal.loop-number-preserved
loop-number-preserved g c = record {
  len = ap length c.in_ok-push.ensures.items ∙ length_push c.loop-number.costs.items c.cost.result ∙ ap (λ n. n + 1) c.loop-number.invariant.len;
  positive = All-same (λ c. 0 < c) c.push.new.self.items _ c.in_ok-push.ensures.items
      (All-push (λ c. 0 < c) c.loop-number.costs.items c.cost.result c.loop-number.invariant.positive (c.requires.positive _ _ (omega (arith, c.to_storage.ensures)) c.cost.ensures));
  costs = costs_more g.S.Storage.number g.met.S.Storage.same (λ t v. goal.F-post g c.args.cost t v) c.loop-number.costs.items c.push.new.self.items c.loop-number.number
      (record { 0 = c.to_storage.result }) c.cost.result c.loop-number.invariant.len c.in_ok-push.ensures.items c.to_storage.ensures c.cost.ensures c.loop-number.invariant.costs;
}

pub returns : goal.returns
returns g c = record {
  positive = c.loop-number.invariant.positive;
  len = omega (arith, c.loop-number.invariant.len, c.loop-number-test.false, c.loop-number.auto.number-end);
  costs = λ t within. c.loop-number.invariant.costs t (omega (arith, within, c.loop-number-test.false));
}
