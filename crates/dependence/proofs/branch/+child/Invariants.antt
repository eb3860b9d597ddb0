-- Each walk into a branch leaves the way to it behind.
use Rattle.std.proofs.Common.{◌+◌, ◌*◌, length}
use Rattle.dependence.proofs.branch.+child.Given as goal

abbrev pub decreases-BranchEvents::at_first_child : goal.decreases-BranchEvents::at_first_child
decreases-BranchEvents::at_first_child l = 2 * length l.place.now + 1

abbrev pub decreases-first_child_among : goal.decreases-first_child_among
decreases-first_child_among l = 2 * length l.place.now
