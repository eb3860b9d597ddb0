use Rattle.std.proofs.Common.{◌≡◌, ◌++◌, drop}
use Rattle.allowed_events.specs.internal.Meeting.{met_with}
use Rattle.allowed_events.proofs.acting_events.add_met.Given as goal

abbrev pub invariant-loop-other : goal.invariant-loop-other
invariant-loop-other l = l.events ++ met_with l.one (drop l.other-index l.others) ≡ l.initial.events ++ met_with l.one l.others
