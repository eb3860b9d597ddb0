use Rattle.std.proofs.Common.{length}
use Rattle.rings.proofs.among.+is_clear.Given as goal

abbrev pub decreases-is_clear : goal.decreases-is_clear
decreases-is_clear l = length l.place.now
