use Rattle.std.proofs.Common.{◌≡◌, ◌≤◌, length}
use Rattle.indexmap.specs.IndexMap.{spare}
use Rattle.slots.specs.Places.{filled, Counted, RiseFrom}
use Rattle.slots.proofs.edits.cut_end.Given as goal

abbrev pub invariant-loop-slots : goal.invariant-loop-slots
invariant-loop-slots g l = record {
  filled : filled l.slots.entries ≡ filled l.fn.slots.entries;
  counted : Counted l.slots.entries l.counts;
  rising : RiseFrom 0 l.slots.entries;
  room : spare l.fn.slots ≤ spare l.slots;
}

abbrev pub decreases-loop-slots : goal.decreases-loop-slots
decreases-loop-slots g l = length l.slots.entries
