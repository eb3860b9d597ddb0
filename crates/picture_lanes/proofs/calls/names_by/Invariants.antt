use Rattle.std.proofs.Common.{◌≡◌, [], drop}
use Rattle.picture_lanes.specs.Calls.{names_onto}
use Rattle.picture_lanes.proofs.calls.names_by.Given as goal

abbrev pub invariant-loop-argument : goal.invariant-loop-argument
invariant-loop-argument l = names_onto l.caller l.names.items (drop l.argument-index l.arguments) ≡ names_onto l.caller [] l.arguments
