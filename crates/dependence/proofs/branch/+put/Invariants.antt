-- Each walk into a branch leaves the way to it behind.
use Rattle.std.proofs.Common.{◌+◌, ◌*◌, length}
use Rattle.dependence.proofs.SeatLaws.{seat_left}
use Rattle.dependence.proofs.branch.+put.Given as goal

abbrev pub decreases-BranchEvents::put : goal.decreases-BranchEvents::put
decreases-BranchEvents::put l = 3 * length l.place.now + 2

abbrev pub decreases-Seat::put : goal.decreases-Seat::put
decreases-Seat::put l = seat_left l.self.now l.rest.now

abbrev pub decreases-put_among : goal.decreases-put_among
decreases-put_among l = 3 * length l.place.now + 1
