-- Each call of it goes one entry further.
use Rattle.std.proofs.Common.{◌-◌, length}
use Rattle.source_calls.proofs.calls.Calls.+found_in.Given as goal

abbrev pub decreases-found_in : goal.decreases-found_in
decreases-found_in l = length l.place.now - l.depth
