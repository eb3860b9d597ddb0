use Rattle.std.proofs.Common.{◌≡◌, drop}
use Rattle.dap_moves.specs.Running.{is_watched}
use Rattle.dap_moves.proofs.seen.is_watched.Given as goal

abbrev pub invariant-loop-one : goal.invariant-loop-one
invariant-loop-one l = is_watched (drop l.one-index l.watched) l.event ≡ is_watched l.watched l.event
