use Rattle.std.proofs.Common.{◌≡◌, ◌++◌, drop}
use Rattle.elaborate.specs.Environment.{at_width}
use Rattle.elaborate.proofs.environment.at_width.Given as goal

abbrev pub invariant-loop-number : goal.invariant-loop-number
invariant-loop-number l = l.values ++ at_width l.width (drop l.number-index l.numbers) ≡ at_width l.width l.numbers
