use Rattle.std.proofs.Common.{◌-◌, drop, length}
use Rattle.run_depths.specs.internal.RacesSoFar.{RacesWith}
use Rattle.run_depths.proofs.races.add_races.Given as goal

abbrev pub invariant-loop-back : goal.invariant-loop-back
invariant-loop-back l = RacesWith l.live.live l.index (drop (length l.leads - l.back) l.leads) l.races.items
