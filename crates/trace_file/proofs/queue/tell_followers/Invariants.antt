use Rattle.std.proofs.Common.{◌≡◌, ℕ, [], take, Some, heap_items}
use Rattle.std.specs.Prelude.{slice_get}
use Rattle.runs.specs.Live.{Live}
use Rattle.runs.specs.declared.event.Event.{Event}
use Rattle.trace_file.specs.internal.Waiting.{Telling}
use Rattle.trace_file.proofs.queue.tell_followers.Given as goal

-- those passed were told
abbrev pub invariant-loop-follower : goal.invariant-loop-follower
invariant-loop-follower l =
    (rest : Live) (t : ℕ) (e : Event) → slice_get l.live.live l.index ≡ Some (t, e)
    → Telling l.live.live rest t [] l.initial.left (heap_items l.initial.free)
    → Telling l.live.live rest t (take l.follower-index l.follower-items) l.left (heap_items l.free)
