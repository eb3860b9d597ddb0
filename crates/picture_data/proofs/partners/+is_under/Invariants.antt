use Rattle.std.proofs.Common.{length}
use Rattle.picture_data.proofs.partners.+is_under.Given as goal

abbrev pub decreases-is_under : goal.decreases-is_under
decreases-is_under l = length l.place.now
