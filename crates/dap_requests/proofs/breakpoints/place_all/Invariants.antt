-- Those before are placed, and told, and so are those of them that have moved.
use Rattle.std.proofs.Common.{[], take}
use Rattle.dap_requests.specs.Sets.{ArePlaced}
use Rattle.dap_requests.specs.internal.Placing.{AreMoving, AreTold}
use Rattle.dap_requests.proofs.breakpoints.place_all.Given as goal

abbrev pub invariant-loop-one : goal.invariant-loop-one
invariant-loop-one l =
    ArePlaced l.own l.machine.checked.main l.program.lines [] (take l.one-index l.asked) l.making.asked.items l.making.stops.items
    × AreTold l.program.counting.lines l.making × AreMoving l.making
