use Rattle.std.proofs.Common.{◌≤◌, length}
use Rattle.cfgsets.specs.Inner.Links.{linked}
use Rattle.cfgsets.specs.Work.{dependents_of}
use Rattle.cfgsets.proofs.Linking.{QueuesBut}
use Rattle.cfgsets.proofs.dependents.Dependents.queue.Given as goal

abbrev pub invariant-loop-number : goal.invariant-loop-number
invariant-loop-number l = record {
  within : l.number ≤ length l.self-inside.links.items;
  queues : QueuesBut (dependents_of l.self l.rule) (linked l.self-inside.links.items l.number l.number) l.fn.waiting l.waiting;
}

abbrev pub decreases-loop-number : goal.decreases-loop-number
decreases-loop-number l = l.number
