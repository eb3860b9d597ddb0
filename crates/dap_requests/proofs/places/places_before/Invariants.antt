-- The lines so far, and those that are left, are all.
use Rattle.std.proofs.Common.{◌≡◌, ◌++◌, ◌-◌, false}
use Rattle.serde_json.specs.View.{items_view}
use Rattle.dap_requests.specs.Lists.{each}
use Rattle.dap_requests.specs.Locations.{line_told, stops_from, told_lines}
use Rattle.dap_requests.proofs.places.places_before.Given as goal

abbrev pub invariant-loop-line : goal.invariant-loop-line
invariant-loop-line l =
    l.list.lacks ≡ false →
    each line_told (items_view l.list.made.items) ++ told_lines l.program (stops_from l.machine.checked.main l.line (l.behind - l.line))
    ≡ told_lines l.program (stops_from l.machine.checked.main l.first (l.behind - l.first))
