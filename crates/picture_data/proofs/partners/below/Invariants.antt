use Rattle.std.proofs.Common.{◌≡◌, ◌+◌, drop}
use Rattle.picture_data.specs.Wanted.{below}
use Rattle.picture_data.proofs.partners.below.Given as goal

abbrev pub invariant-loop-index : goal.invariant-loop-index
invariant-loop-index l = l.index + below l.number (drop l.index l.numbers) ≡ below l.number l.numbers
