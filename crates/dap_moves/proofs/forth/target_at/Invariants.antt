use Rattle.std.proofs.Common.{◌≡◌, ◌++◌, drop}
use Rattle.std.specs.List.{filter}
use Rattle.std.specs.Prelude.{slice_get}
use Rattle.dap_moves.specs.Moves.{acts, joins, targets}
use Rattle.dap_moves.proofs.forth.target_at.Given as goal

abbrev pub invariant-loop-event : goal.invariant-loop-event
invariant-loop-event l =
    slice_get (targets l.system l.branch l.events) l.number
    ≡ slice_get (filter (acts l.system l.branch) (drop l.event-index l.events) ++ filter (joins l.system l.branch) l.events) l.left
