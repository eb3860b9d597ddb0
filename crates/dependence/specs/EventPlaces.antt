-- Where events act in the source: the line of a place after events, and whether a `select` opens there.
--
-- The arms of a choice all stand at p.1. The one that stands there is the one that the test or the open at p.0 took,
-- and no two events of a run have one acting address.
use Rattle.std.specs.Prelude.{ℕ, List, [], ◌∷◌, Bool, Option, None, if◌then◌else◌}
use Rattle.system.specs.declared.system.System.{System}
use Rattle.dependence.specs.LastEvents.{first_child}
use Rattle.system_places.specs.TakenArms.{line_under, is_open_under}
use Rattle.runs.specs.Events.{acting}
use Rattle.runs.specs.Moves.{Place}
use Rattle.runs.specs.Tests.{same_place}
use Rattle.runs.specs.declared.event.Event.{Event}

-- where the choice at p takes its arm
abbrev pub at_choice : Place → Place
at_choice p = first_child p

-- the arm that the choice at p took: that of the event that acts at p.0; none where none does
abbrev pub taken_by : List Event → Place → Option ℕ
taken_by [] p = None
taken_by (e ∷ h) p = if same_place (acting e) (at_choice p) then e.arm else taken_by h p

-- the line of the command that has the place after the events h
abbrev pub line_after : List Event → System → Place → Option ℕ
line_after h system place = line_under (taken_by h) system place

-- whether the place is one at which a `select` opens, after the events h
abbrev pub is_open_after : List Event → System → Place → Bool
is_open_after h system place = is_open_under (taken_by h) system place
