-- With the calls around the last one that was added, they are all.
use Rattle.std.proofs.Common.{◌≡◌, ◌++◌, map}
use Rattle.dap_views.specs.Around.{calls_around, outwards}
use Rattle.dap_threads.specs.Frames.{at_call}
use Rattle.dap_threads.proofs.frames.add_calls.Given as goal

abbrev pub invariant-outwards : goal.invariant-outwards
invariant-outwards l =
    l.frames.items ++ map at_call (outwards l.left l.index l.inner) ≡ l.initial.frames.items ++ map at_call (calls_around l.index l.initial.inner)

abbrev pub decreases-outwards : goal.decreases-outwards
decreases-outwards l = l.left
