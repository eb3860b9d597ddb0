-- What the picture of a run shows.
use Rattle.std.specs.Prelude.{◌≡◌, ◌↔◌, ℕ, List, [], ◌∷◌, IsTrue, Option, None, Some}
use Rattle.syntax.specs.Lists.{Every}
use Rattle.runs.specs.Live.{Live, events}
use Rattle.runs.specs.Moves.{Place}
use Rattle.runs.specs.Object.{Reaches}
use Rattle.runs.specs.Ready.{ReadyList}
use Rattle.runs.specs.Steps.{State}
use Rattle.runs.specs.declared.event.Event.{Event}
use Rattle.run_depths.specs.Depths.{AreAhead, AreBelow, AreDepths}
use Rattle.run_depths.specs.Races.{AreRaces}
use Rattle.run_depths.specs.Since.{AreSince}
use Rattle.types.specs.declared.tree.Procedure.{Procedure}
use Rattle.machine.specs.AtMachine.{AtMachine, object}
use Rattle.waiting.specs.Lacking.{LacksInput}
use Rattle.waiting.specs.Progress.{StandsLike}
use Rattle.waiting.specs.Told.{TellsWaits}
use Rattle.waiting.specs.declared.waiting.Waiting.{Waiting}
use Rattle.picture_lanes.specs.Ground.{found_in, lanes_of, uses_of, with_feeds}
use Rattle.picture_lanes.specs.declared.lane.Lane.{Lane}
use Rattle.picture_lanes.specs.declared.walk.ChannelUse.{ChannelUse}
use Rattle.picture_data.specs.Lines.{lane_at, line_of}
use Rattle.picture_data.specs.Spots.{AreSpots, ShowsRing, StandsSince, places_of_sides, ring_of}
use Rattle.picture_data.specs.Wanted.{Seen}
use Rattle.picture_data.specs.declared.actions.Actions.{Actions}
use Rattle.picture_data.specs.declared.steps.Steps.{Steps}
use Rattle.picture_data.specs.declared.end.End.{End}
use Rattle.picture_data.specs.declared.picture.Picture.{Picture}

-- where a second place stands, if there is one: its lane, if there is one, and its line
abbrev pub SecondStandsIn : AtMachine → List Lane → Option Place → Actions → Type 0
SecondStandsIn m lanes None s = (s.second_lane ≡ None) × (s.second_line ≡ 0)
SecondStandsIn m lanes (Some place) s = (s.second_lane ≡ lane_at lanes place) × (s.second_line ≡ line_of m place)

-- where an event stands: of each of its places the lane, if there is one, and the line
pub record StandsIn (m : AtMachine) (lanes : List Lane) (e : Event) (s : Actions) : Type 0 where
  pub lane : s.first_lane ≡ lane_at lanes e.first
  pub line : s.first_line ≡ line_of m e.first
  pub second : SecondStandsIn m lanes e.second s

-- the same of each of these events
abbrev pub EachStandsIn : AtMachine → List Lane → List Event → List Actions → Type 0
EachStandsIn m lanes [] [] = Unit {0}
EachStandsIn m lanes (e ∷ es) (s ∷ actions) = StandsIn m lanes e s × EachStandsIn m lanes es actions
EachStandsIn m lanes _ _ = ⊥

-- the rows of the live events, who needs whom among them, where each stands and since when, and the orders that only a
-- shared variable makes
pub record ShowsSteps (m : AtMachine) (lanes : List Lane) (steps : Steps) : Type 0 where
  pub depths : AreDepths m.live steps.depths.items
  pub ahead : AreAhead m.live steps.ahead
  pub actions : EachStandsIn m lanes (events m.live) steps.actions.items
  pub since : AreSince m.live steps.depths.items steps.since.items
  pub races : AreRaces m.live steps.races.items

-- these are the depths of the live events
abbrev pub HasDepths : Live → List ℕ → Type 0
HasDepths l depths = AreDepths l depths × AreBelow depths

-- what there is to see, where these wait
abbrev pub seen_of : AtMachine → List Lane → List ChannelUse → Waiting → List Event → Seen
seen_of m lanes uses w ready =
    record { line = line_of m; around = record { lanes = lanes; uses = uses; actions = w.actions; ready = ready } }

-- who waits, as it is told of the state: the places with what they wait on, in their lanes, and behind them those of
-- the events that can be taken, each since when; and a ring of places that wait exactly where there is one
pub record ShowsWaits (m : AtMachine) (lanes : List Lane) (uses : List ChannelUse) (depths : List ℕ) (end : End) :
    Type 0 where
  pub waiting : Waiting
  pub told : TellsWaits m waiting
  pub places : AreSpots (seen_of m lanes uses waiting end.ready) waiting end.ready end.places.items
  pub since : Every (StandsSince (record { live = m.live; depths = depths })) end.places.items
  pub ring : (S : State) × Reaches (object m) S × ShowsRing m S end.places.items end.ring.items
  -- that of the actions of which it is told
  pub ring_told :
      end.ring.items
      ≡ ring_of
      (places_of_sides (seen_of m lanes uses waiting end.ready) [] waiting.partners.items 0 waiting.actions)
      waiting.ring.items

-- the events that can be taken and where each stands, how the run stands, whether it lacks nothing but input, and who
-- waits
pub record ShowsEnd (m : AtMachine) (lanes : List Lane) (uses : List ChannelUse) (depths : List ℕ) (end : End) :
    Type 0 where
  pub ready : (S : State) × Reaches (object m) S × ReadyList S end.ready
  pub actions : EachStandsIn m lanes end.ready end.ready_actions.items
  pub progress : (S : State) × Reaches (object m) S × StandsLike S end.progress
  pub lacks_input : (S : State) × Reaches (object m) S × (IsTrue end.lacks_input ↔ LacksInput m S)
  pub waits : ShowsWaits m lanes uses depths end

-- all of it, where the system was elaborated from these procedures
pub record Shows (m : AtMachine) (procedures : List Procedure) (picture : Picture) : Type 0 where
  pub instances : picture.instances.items ≡ (found_in procedures m.checked).instances
  pub lanes : picture.lanes.items ≡ lanes_of procedures m.checked
  pub feeds : picture.feeds.items ≡ with_feeds picture.lanes.items 0 m.checked.environment []
  pub steps : ShowsSteps m picture.lanes.items picture.steps
  pub end :
      ShowsEnd m picture.lanes.items (uses_of procedures m.checked) picture.steps.depths.items picture.end
