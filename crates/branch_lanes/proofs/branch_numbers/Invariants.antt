use Rattle.std.proofs.Common.{◌≡◌, ◌++◌, drop}
use Rattle.branch_lanes.specs.Lanes.{branch_numbers}
use Rattle.branch_lanes.proofs.branch_numbers.Given as goal

abbrev pub invariant-loop-entry : goal.invariant-loop-entry
invariant-loop-entry l = l.numbers.items ++ branch_numbers (drop l.entry-index l.entries) ≡ branch_numbers l.entries
