use Rattle.std.proofs.Common.{[], length}
use Rattle.rings.specs.internal.FirstSearch.{ComesTo}
use Rattle.rings.specs.internal.Search.{same_at, waits}
use Rattle.rings.specs.internal.Trails.{SoundTrail}
use Rattle.rings.proofs.Marked.{Before}
use Rattle.rings.proofs.ring.first_ring.Given as goal

abbrev pub invariant-loop-start : goal.invariant-loop-start
invariant-loop-start l =
    Before (length l.actions) (waits l.actions l.partners l.marks) (same_at l.actions) l.trail.seen.items l.start × SoundTrail l.tables l.actions l.trail []
    × ComesTo l.actions l.partners l.marks [] l.trail.seen.items []
