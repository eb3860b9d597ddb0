use Rattle.std.proofs.Common.{◌≡◌, ◌+◌, length}
use Rattle.source_places.proofs.characters_between.Given as goal

abbrev pub invariant-chars : goal.invariant-chars
invariant-chars l = l.count + length l.chars ≡ length l.initial.chars

abbrev pub decreases-chars : goal.decreases-chars
decreases-chars l = length l.chars
