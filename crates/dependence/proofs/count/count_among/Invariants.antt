use Rattle.std.proofs.Common.{◌≤◌, length, take}
use Rattle.dependence.specs.internal.Tables.{CountsAmong}
use Rattle.dependence.proofs.count.count_among.Given as goal

abbrev pub invariant-loop-other : goal.invariant-loop-other
invariant-loop-other l = record {
  counted : CountsAmong l.event (take (length l.yielded) l.fn.later) l.count;
  bound : l.count ≤ length l.yielded;
}
