use Rattle.std.proofs.Common.{◌≡◌, length}
use Rattle.run_depths.specs.internal.Held.{AllHeld}
use Rattle.run_depths.proofs.held.all_places.Given as goal

abbrev pub invariant-loop-index : goal.invariant-loop-index
invariant-loop-index l = record {
  counted : l.index ≡ length l.yielded;
  held : AllHeld l.live.live l.depths l.index l.places.items;
}
