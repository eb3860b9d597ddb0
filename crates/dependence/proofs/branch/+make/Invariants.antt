-- Each walk into a branch leaves the way to it behind.
use Rattle.std.proofs.Common.{◌+◌, ◌*◌, length}
use Rattle.dependence.proofs.branch.+make.Given as goal

abbrev pub decreases-BranchEvents::with_one : goal.decreases-BranchEvents::with_one
decreases-BranchEvents::with_one l = 2 * length l.place.now + 1

abbrev pub decreases-Seat::new : goal.decreases-Seat::new
decreases-Seat::new l = 2 * length l.place.now
