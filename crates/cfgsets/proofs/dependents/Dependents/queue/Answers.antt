use Rattle.std.proofs.Common.{◌≡◌, subst, sym, refl, arith}
use Rattle.cfgsets.specs.Work.{Queues, dependents_of}
use Rattle.cfgsets.proofs.Linking.{QueuesBut, head_list, head_within, heads_long, link_less, link_queued, link_within, queues_last, queues_none}
use Rattle.cfgsets.proofs.dependents.Dependents.queue.Goals as goal

pub loop-number-init : goal.loop-number-init
loop-number-init c =
    let lt = heads_long _ _ _ _ c.self.view_is c.requires.rule in
    record {
      within = head_within _ _ _ _ c.self.invariant lt c.index-number.ensures;
      queues = subst (λ l. QueuesBut (dependents_of c.args.self.now c.args.rule) l c.args.waiting.now c.args.waiting.now)
          (head_list _ _ _ _ _ lt c.index-number.ensures c.self.view_is) (queues_none _ _);
    }

pub put-requires : goal.put-requires
put-requires c = link_within _ _ _ _ _ _ c.self.invariant.before c.loop-number-test.true c.loop-number.invariant.within c.index-link.ensures
    c.loop-number.invariant.queues c.requires.within

pub loop-number-smaller : goal.loop-number-smaller
loop-number-smaller c = link_less _ _ _ _ _ _ c.self.invariant.before c.loop-number-test.true c.loop-number.invariant.within c.index-link.ensures
    c.loop-number.invariant.queues

pub loop-number-preserved : goal.loop-number-preserved
loop-number-preserved c =
    let less = link_less _ _ _ _ _ _ c.self.invariant.before c.loop-number-test.true c.loop-number.invariant.within c.index-link.ensures
    c.loop-number.invariant.queues in
    let within = link_within _ _ _ _ _ _ c.self.invariant.before c.loop-number-test.true c.loop-number.invariant.within c.index-link.ensures
    c.loop-number.invariant.queues c.requires.within in
    record {
      within = omega (arith, less, c.loop-number.invariant.within);
      queues = link_queued _ _ _ _ _ _ c.self.invariant.before c.loop-number-test.true c.loop-number.invariant.within c.index-link.ensures
          c.loop-number.invariant.queues _ within c.put.ensures;
    }

pub returns : goal.returns
returns c = subst (λ w. Queues c.args.self.now (λ r. r ≡ c.args.rule) c.args.waiting.now w) (sym c.reverse_from.ensures)
    (queues_last _ _ _ _ _ _ _ refl (omega (arith, c.loop-number-test.false)) c.loop-number.invariant.queues)
