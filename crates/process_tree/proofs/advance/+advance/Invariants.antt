-- Each move down is one step of the place.
use Rattle.std.proofs.Common.{◌+◌, ◌*◌, length}
use Rattle.process_tree.proofs.advance.+advance.Given as goal

abbrev pub decreases-advance : goal.decreases-advance
decreases-advance l = 3 * length l.place.now + 2

abbrev pub decreases-in_loop : goal.decreases-in_loop
decreases-in_loop l = 3 * length l.place.now + 1

abbrev pub decreases-in_turn : goal.decreases-in_turn
decreases-in_turn l = 3 * length l.place.now

abbrev pub decreases-in_test : goal.decreases-in_test
decreases-in_test l = 3 * length l.place.now + 1

abbrev pub decreases-in_taken : goal.decreases-in_taken
decreases-in_taken l = 3 * length l.place.now

abbrev pub decreases-in_arms : goal.decreases-in_arms
decreases-in_arms l = 3 * length l.place.now + 1

abbrev pub decreases-in_opened : goal.decreases-in_opened
decreases-in_opened l = 3 * length l.place.now

abbrev pub decreases-in_child : goal.decreases-in_child
decreases-in_child l = 3 * length l.place.now

abbrev pub decreases-in_branch : goal.decreases-in_branch
decreases-in_branch l = 3 * length l.place.now
