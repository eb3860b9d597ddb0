-- With the places that are left, they are all.
use Rattle.std.proofs.Common.{◌≡◌, ◌++◌, drop, map}
use Rattle.dap_threads.specs.Frames.{at_place}
use Rattle.dap_threads.proofs.frames.add_places.Given as goal

abbrev pub invariant-loop-number : goal.invariant-loop-number
invariant-loop-number l =
    l.frames.items ++ map (at_place l.machine l.index l.actions) (drop l.number-index l.places)
    ≡ l.initial.frames.items ++ map (at_place l.machine l.index l.actions) l.places
