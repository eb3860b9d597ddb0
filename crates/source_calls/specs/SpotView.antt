-- A command in a call, as it is seen behind its reference.
use Rattle.source_calls.specs.Stands.{At}
use Rattle.source_calls.specs.declared.places.Spot.{Spot}

abbrev pub spot_view : Spot → At
spot_view s = record { call = s.call; passed = s.passed; command = s.command.now }
