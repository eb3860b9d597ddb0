use Rattle.std.proofs.Common.{◌≡◌, ◌++◌, drop}
use Rattle.elaborate.specs.internal.Walked.{walked_branches}
use Rattle.elaborate.proofs.environment.branches.Given as goal

abbrev pub invariant-loop-position : goal.invariant-loop-position
invariant-loop-position l = l.branches ++ walked_branches l.entries l.position (drop l.position l.ports) ≡ walked_branches l.entries 0 l.ports
