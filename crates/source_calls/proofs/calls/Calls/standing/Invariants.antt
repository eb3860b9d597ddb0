-- What is left to go into leads to where all of it leads.
use Rattle.std.proofs.Common.{◌≡◌}
use Rattle.source_calls.specs.SpotView.{spot_view}
use Rattle.source_calls.specs.Stands.{entered, standing}
use Rattle.source_calls.proofs.calls.Calls.standing.Given as goal

abbrev pub invariant-inward : goal.invariant-inward
invariant-inward l = entered l.left l.self (spot_view l.spot) ≡ standing l.self (spot_view l.initial.spot)

abbrev pub decreases-inward : goal.decreases-inward
decreases-inward l = l.left
