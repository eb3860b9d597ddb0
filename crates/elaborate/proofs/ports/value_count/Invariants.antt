use Rattle.std.proofs.Common.{◌≡◌, ◌+◌, ◌-◌, ◌^◌, ◌≤◌, min, drop}
use Rattle.elaborate.specs.SourceSize.{sent_on}
use Rattle.elaborate.proofs.ports.value_count.Given as goal

-- with the values for the ports that are left, the count is that of all, cut
abbrev pub invariant-loop-port : goal.invariant-loop-port
invariant-loop-port l = record {
  small : l.count ≤ 2 ^ 64 - 1;
  same : min (l.count + sent_on l.entries (drop l.port-index l.ports)) (2 ^ 64 - 1) ≡ min (sent_on l.entries l.ports) (2 ^ 64 - 1);
}
