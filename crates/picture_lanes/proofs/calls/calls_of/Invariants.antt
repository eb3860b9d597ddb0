use Rattle.std.proofs.Common.{◌≡◌, ◌+◌, ◌≤◌, drop}
use Rattle.picture_lanes.specs.Calls.{calls_of}
use Rattle.picture_lanes.proofs.calls.calls_of.Given as goal

abbrev pub invariant-loop-instance : goal.invariant-loop-instance
invariant-loop-instance l = record {
  count : l.calls + calls_of l.block (drop l.instance-index l.instances) ≡ calls_of l.block l.instances;
  most : l.calls ≤ l.instance-index;
}
