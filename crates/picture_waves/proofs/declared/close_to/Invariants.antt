use Rattle.std.proofs.Common.{vec_len}
use Rattle.picture_waves.proofs.declared.close_to.Given as goal

abbrev pub decreases-scopes : goal.decreases-scopes
decreases-scopes l = vec_len l.open
