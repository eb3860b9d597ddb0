use Rattle.std.proofs.Common.{◌≡◌, ◌+◌, ◌++◌, drop}
use Rattle.outline.specs.Branches.{of_ports}
use Rattle.outline.proofs.branches.add_ports.Given as goal

abbrev pub invariant-loop-index : goal.invariant-loop-index
invariant-loop-index l =
    l.branches ++ of_ports (l.first + l.index) (l.index + 1) (drop l.index l.environment) ≡ l.initial.branches ++ of_ports l.first 1 l.environment
