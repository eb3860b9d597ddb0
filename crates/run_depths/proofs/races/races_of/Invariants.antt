use Rattle.std.proofs.Common.{◌≡◌, length}
use Rattle.run_depths.specs.internal.RacesSoFar.{RacesTo}
use Rattle.run_depths.proofs.races.races_of.Given as goal

abbrev pub invariant-loop-index : goal.invariant-loop-index
invariant-loop-index l = record {
  counted : l.index ≡ length l.yielded;
  races : RacesTo l.live.live l.index l.races.items;
}
