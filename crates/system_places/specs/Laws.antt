-- What places and lines have to do with each other.
use Rattle.std.specs.Prelude.{◌≡◌, ℕ, List, true, Some}
use Rattle.address.specs.declared.Entry.{Entry}
use Rattle.system.specs.declared.system.System.{System}
use Rattle.system_places.specs.LinesBegun.{begins}
use Rattle.system_places.specs.TakenArms.{ArmsByPlace, line_under}

-- the line of a place is one on which a command begins, whichever arms were taken
abbrev pub LinesAreBegun : Type 0
LinesAreBegun = (taken : ArmsByPlace) (system : System) (place : List Entry) (line : ℕ) →
    line_under taken system place ≡ Some line → begins line system.main ≡ true
