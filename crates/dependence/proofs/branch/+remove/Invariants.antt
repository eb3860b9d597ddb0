-- Each walk into a branch leaves the way to it behind.
use Rattle.std.proofs.Common.{◌+◌, ◌*◌, length}
use Rattle.dependence.proofs.SeatLaws.{seat_left}
use Rattle.dependence.proofs.branch.+remove.Given as goal

abbrev pub decreases-BranchEvents::remove : goal.decreases-BranchEvents::remove
decreases-BranchEvents::remove l = 3 * length l.place.now + 2

abbrev pub decreases-Seat::remove : goal.decreases-Seat::remove
decreases-Seat::remove l = seat_left l.self.now l.rest.now

abbrev pub decreases-remove_among : goal.decreases-remove_among
decreases-remove_among l = 3 * length l.place.now + 1
