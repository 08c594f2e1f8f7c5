-- Each turn writes some bytes, and counts no fault.
use Rattle.std.proofs.Common.{◌≡◌, ◌-◌, ◌≤◌, length, take}
use Rattle.std.specs.Io.KnownBytes.{Appends}
use Rattle.cfgsink.proofs.sink.write_whole.Given as goal

abbrev pub invariant-loop-taken : goal.invariant-loop-taken
invariant-loop-taken g l = record {
  within : l.taken ≤ length l.bytes;
  appended : Appends (g.W.Sink.written l.initial.out) (g.W.Sink.written l.out) (take l.taken l.bytes);
  faultless : g.W.Sink.faults_counted l.out ≡ g.W.Sink.faults_counted l.initial.out;
}

abbrev pub decreases-loop-taken : goal.decreases-loop-taken
decreases-loop-taken g l = length l.bytes - l.taken
