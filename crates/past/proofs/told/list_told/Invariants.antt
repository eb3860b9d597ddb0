use Rattle.std.proofs.Common.{◌≤◌, drop}
use Rattle.past.specs.internal.Near.{Told}
use Rattle.past.proofs.told.list_told.Given as goal

-- with what is told of the events that are left, it is what is told of all
abbrev pub invariant-loop-place : goal.invariant-loop-place
invariant-loop-place l = record {
  few : l.left_out ≤ l.place;
  told : Told l.live.live l.asked l.whole (drop l.place l.whole) l.events l.left_out;
}
