-- Places while they are listed. No reader has to believe it: the contract of `end_of` speaks of all.
use Rattle.std.specs.Prelude.{◌≡◌, ◌⊎◌, ℕ, List, [], ◌∷◌, ◌++◌, Option, Some, drop, map, take}
use Rattle.syntax.specs.Lists.{Every}
use Rattle.runs.specs.Moves.{Place}
use Rattle.runs.specs.declared.event.Event.{Event}
use Rattle.machine.specs.AtMachine.{AtMachine}
use Rattle.local_actions.specs.declared.action.LocalAction.{LocalAction}
use Rattle.rings.specs.declared.partner.Partner.{Partner}
use Rattle.run_depths.specs.internal.Held.{HoldsPlaces}
use Rattle.picture_data.specs.Lines.{line_of}
use Rattle.picture_data.specs.Spots.{Deep, Spot, StandsSince, place_at, places_of_sides, ready_spots, role_of, spot_at, spot_of, spots_behind, with_sides}
use Rattle.picture_data.specs.Wanted.{Around, Seen}
use Rattle.picture_data.specs.declared.partners.Now.{Now}
use Rattle.picture_data.specs.declared.places.Place.{Place as Shown}

-- what there is to see, and the depths of the live events
abbrev pub around_in : Now → Around
around_in n =
    record { lanes = n.table.now; uses = n.uses.now; actions = n.actions.now; ready = n.ready.now }

abbrev pub seen_in : AtMachine → Now → Seen
seen_in m n = record { line = line_of m; around = around_in n }

abbrev pub deep_in : Now → Deep
deep_in n = record { live = n.live.now.live; depths = n.depths.now }

-- the places of the live events are held, with what is behind these depths
abbrev pub KnowsDepths : Now → Type 0
KnowsDepths n = HoldsPlaces n.live.now.live n.depths.now n.held.now

-- the place of an action
abbrev pub side_place : LocalAction → Option Place
side_place x = Some x.place

-- the places of these actions, and for each action the index of its place
pub record SpotsOf (m : Seen) (deep : Deep) (partners : List Partner) (actions : List LocalAction)
    (places : List Shown) (found : List ℕ) : Type 0 where
  pub spots : map spot_of places ≡ with_sides m [] partners 0 actions
  pub since_told : Every (StandsSince deep) places
  pub found_places : map (place_at places) found ≡ map side_place actions
  pub found_is : found ≡ places_of_sides m [] partners 0 actions

-- p was the last of the places, and is that of the action; or it is a new one, where another was the last
abbrev pub TakenFor : Seen → Deep → LocalAction → List Shown → List Shown → Shown → Type 0
TakenFor m deep x old new p =
    ((old ≡ new ++ p ∷ []) × (p.place ≡ x.place))
    ⊎ ((new ≡ old) × ((front : List Shown) (q : Shown) → old ≡ front ++ q ∷ [] → q.place ≡ x.place → ⊥)
    × (spot_of p ≡ spot_at m x.place (role_of x.action)) × StandsSince deep p)

-- places with these spots stand behind the others
pub record AddsSpots (deep : Deep) (old new : List Shown) (spots : List Spot) : Type 0 where
  pub more : List Shown
  pub joined : new ≡ old ++ more
  pub shown : map spot_of more ≡ spots
  pub since_told : Every (StandsSince deep) more

-- the same of the first i of events that can be taken
pub record AddsSoFar (m : Seen) (deep : Deep) (es : List Event) (i : ℕ) (old new : List Shown) : Type 0 where
  pub done : List Spot
  pub adds : AddsSpots deep old new done
  pub rest : done ++ spots_behind m (take i es) (drop i es) ≡ ready_spots m es
