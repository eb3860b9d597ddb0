use Rattle.std.proofs.Common.{◌≡◌, drop}
use Rattle.std.specs.List.{filter}
use Rattle.std.specs.Prelude.{slice_get}
use Rattle.dap_moves.specs.Moves.{joins}
use Rattle.dap_moves.proofs.forth.joined_at.Given as goal

abbrev pub invariant-loop-event : goal.invariant-loop-event
invariant-loop-event l =
    slice_get (filter (joins l.system l.branch) l.events) l.number
    ≡ slice_get (filter (joins l.system l.branch) (drop l.event-index l.events)) l.left
