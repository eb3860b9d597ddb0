use Rattle.std.proofs.Common.{length}
use Rattle.rings.proofs.among.+is_same_way.Given as goal

abbrev pub decreases-is_same_way : goal.decreases-is_same_way
decreases-is_same_way l = length l.one.now
