use Rattle.std.proofs.Common.{◌≤◌}
use Rattle.picture_data.proofs.prefix.prefix_length.Given as goal

abbrev pub invariant-loop-index : goal.invariant-loop-index
invariant-loop-index l = l.found ≤ l.index
