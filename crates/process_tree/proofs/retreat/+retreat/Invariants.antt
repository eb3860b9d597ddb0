-- Each move down is one step of the place.
use Rattle.std.proofs.Common.{◌+◌, ◌*◌, length}
use Rattle.process_tree.proofs.retreat.+retreat.Given as goal

abbrev pub decreases-retreat : goal.decreases-retreat
decreases-retreat l = 3 * length l.place.now + 2

abbrev pub decreases-from_loop : goal.decreases-from_loop
decreases-from_loop l = 3 * length l.place.now + 1

abbrev pub decreases-from_turn : goal.decreases-from_turn
decreases-from_turn l = 3 * length l.place.now

abbrev pub decreases-from_test : goal.decreases-from_test
decreases-from_test l = 3 * length l.place.now + 1

abbrev pub decreases-from_taken : goal.decreases-from_taken
decreases-from_taken l = 3 * length l.place.now

abbrev pub decreases-from_arms : goal.decreases-from_arms
decreases-from_arms l = 3 * length l.place.now + 1

abbrev pub decreases-from_opened : goal.decreases-from_opened
decreases-from_opened l = 3 * length l.place.now

abbrev pub decreases-from_child : goal.decreases-from_child
decreases-from_child l = 3 * length l.place.now

abbrev pub decreases-from_branch : goal.decreases-from_branch
decreases-from_branch l = 3 * length l.place.now
