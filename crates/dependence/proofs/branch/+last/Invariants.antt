-- In a branch there are fewer entries than in what it stands in.
use Rattle.std.proofs.Common.{◌+◌, ◌*◌, take}
use Rattle.dependence.specs.internal.Seats.{seat_places, flat}
use Rattle.dependence.specs.internal.Sizes.{entries_of}
use Rattle.dependence.specs.internal.Walks.{AddedLast}
use Rattle.dependence.proofs.branch.+last.Given as goal

abbrev pub decreases-BranchEvents::add_last : goal.decreases-BranchEvents::add_last
decreases-BranchEvents::add_last l = 4 * entries_of l.self.now + 3

abbrev pub decreases-Seat::add_last : goal.decreases-Seat::add_last
decreases-Seat::add_last l = 4 * entries_of (seat_places l.self.now)

abbrev pub decreases-add_last_among : goal.decreases-add_last_among
decreases-add_last_among l = 4 * entries_of (flat l.seats.now) + 2

abbrev pub decreases-add_each : goal.decreases-add_each
decreases-add_each l = 4 * entries_of (flat l.seats.now) + 1

abbrev pub invariant-add_each-loop-seat : goal.invariant-add_each-loop-seat
invariant-add_each-loop-seat l = record { added : AddedLast (flat (take l.seat-index l.seats)) l.initial.found.items l.found.items }
