-- How far a place is from going on.
use Rattle.std.specs.Prelude.{◌||◌, if◌then◌else◌, Bool, false, List, [], ◌∷◌, Option, None, Some}
use Rattle.runs.specs.Events.{acting}
use Rattle.runs.specs.Moves.{Place}
use Rattle.runs.specs.Tests.{same_place}
use Rattle.runs.specs.declared.event.Event.{Event}
use Rattle.dap_views.specs.declared.sight.Rank.{Rank}

-- whether there is a place, and it is this
abbrev pub is_there : Place → Option Place → Bool
is_there place None = false
is_there place (Some other) = same_place other place

-- whether one of the places of the event is this
abbrev pub is_at : Event → Place → Bool
is_at e place = same_place e.first place || is_there place e.second

-- how far it is by these steps: one acts there, or the partner's does; and else as far as this
abbrev pub rank_among : Rank → List Event → Place → Rank
rank_among rank [] place = rank
rank_among rank (e ∷ es) place =
    if same_place (acting e) place then Rank.Acts
    else rank_among (if is_at e place then Rank.Joins else rank) es place

-- how far it is where these steps are ready: it waits where none takes part
abbrev pub rank_of : List Event → Place → Rank
rank_of ready place = rank_among Rank.Waits ready place
