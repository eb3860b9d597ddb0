use Rattle.std.proofs.Common.{◌+◌, ◌*◌, ℕ, List, length, vec_len}
use Rattle.rings.specs.internal.FirstSearch.{ComesTo, DoneAt}
use Rattle.rings.specs.internal.Search.{count_new, same_at, waits}
use Rattle.rings.specs.internal.Trails.{SoundTrail}
use Rattle.rings.proofs.Marked.{From}
use Rattle.rings.proofs.ring.ring_from.Given as goal

abbrev pub invariant-search : goal.invariant-search
invariant-search l =
    From (length l.actions) (waits l.actions l.partners l.marks) (same_at l.actions) l.fn.trail.seen.items l.trail.seen.items l.start l.way.items
    × SoundTrail l.tables l.actions l.trail l.way.items
    × ((before : List ℕ) → DoneAt l.fn.trail.seen.items before → ComesTo l.actions l.partners l.marks before l.trail.seen.items l.way.items)

abbrev pub decreases-search : goal.decreases-search
decreases-search l = 2 * count_new l.trail.seen.items + vec_len l.way
