-- The pictures of equal runs: those that differ only in the order of independent steps.
use Rattle.std.specs.Prelude.{◌≡◌, ℕ, ◌+◌, List, map, Some, slice_get, slice_index}
use Rattle.syntax.specs.Lists.{In}
use Rattle.runs.specs.Live.{Rising}
use Rattle.runs.specs.declared.event.Event.{Event}
use Rattle.run_depths.specs.declared.races.Race.{Race}
use Rattle.depth_laws.specs.Laws.{AreEqualRuns}
use Rattle.types.specs.declared.tree.Procedure.{Procedure}
use Rattle.machine.specs.AtMachine.{AtMachine}
use Rattle.picture_data.specs.Shown.{Shows}
use Rattle.picture_data.specs.Spots.{spot_of}
use Rattle.picture_data.specs.declared.actions.Actions.{Actions}
use Rattle.picture_data.specs.declared.picture.Picture.{Picture}
use Rattle.picture_data.specs.declared.places.Place.{Place as Shown}

-- the live event e stands at the index i of the one and at j of the other
pub record StandsInBoth (m n : AtMachine) (i j : ℕ) (e : Event) : Type 0 where
  pub ticket : ℕ
  pub other : ℕ
  pub here : slice_get m.live i ≡ Some (ticket, e)
  pub there : slice_get n.live j ≡ Some (other, e)

-- both are drawn on the same blocks, lanes and ports
pub record IsOneGround (p q : Picture) : Type 0 where
  pub instances : p.instances.items ≡ q.instances.items
  pub lanes : p.lanes.items ≡ q.lanes.items
  pub feeds : p.feeds.items ≡ q.feeds.items

-- the depth from which on something may stand at a place
abbrev pub since_of : Shown → ℕ
since_of p = p.since

-- both show one end: the events that can be taken, how the run stands, whether it lacks nothing but input, who waits,
-- where, for which lanes and since when, and one ring, or none
pub record IsOneEnd (p q : Picture) : Type 0 where
  pub ready : p.end.ready ≡ q.end.ready
  pub ready_actions : p.end.ready_actions.items ≡ q.end.ready_actions.items
  pub progress : p.end.progress ≡ q.end.progress
  pub lacks_input : p.end.lacks_input ≡ q.end.lacks_input
  pub places : map spot_of p.end.places.items ≡ map spot_of q.end.places.items
  pub places_since : map since_of p.end.places.items ≡ map since_of q.end.places.items
  pub ring : p.end.ring.items ≡ q.end.ring.items

-- the two pictures show the same of each event, by whatever ticket and index
pub record ShowTheSame (m n : AtMachine) (p q : Picture) : Type 0 where
  pub ground : IsOneGround p q
  pub depths : (i j : ℕ) (e : Event) → StandsInBoth m n i j e →
      slice_index p.steps.depths.items i ≡ slice_index q.steps.depths.items j
  -- the event e, and with it f, which stands d further on in the one and b in the other
  pub followers : (i j d b : ℕ) (e f : Event) (row other : List ℕ) → StandsInBoth m n i j e →
      StandsInBoth m n (i + d) (j + b) f → slice_get p.steps.ahead i ≡ Some row →
      slice_get q.steps.ahead j ≡ Some other → In d row → In b other
  -- the lanes and the lines of an event
  pub actions : (i j : ℕ) (e : Event) (s r : Actions) → StandsInBoth m n i j e →
      slice_get p.steps.actions.items i ≡ Some s →
      slice_get q.steps.actions.items j ≡ Some r → s ≡ r
  -- since when something may have stood at its places
  pub since : (i j : ℕ) (e : Event) (s r : ℕ × ℕ) → StandsInBoth m n i j e →
      slice_get p.steps.since.items i ≡ Some s →
      slice_get q.steps.since.items j ≡ Some r → s ≡ r
  pub races : (race : Race) (i j : ℕ) (e f : Event) → In race p.steps.races.items → StandsInBoth m n race.cause i e →
      StandsInBoth m n race.event j f →
      In (record { cause = i; event = j; variable = race.variable }) q.steps.races.items
  pub end : IsOneEnd p q

-- the live events of two machines of one system are respecting orders of one another: so their pictures show the same
abbrev pub EqualRunsShowTheSame : Type 0
EqualRunsShowTheSame =
    (m n : AtMachine) (procedures : List Procedure) (p q : Picture) → m.checked ≡ n.checked →
    AreEqualRuns m.checked m.live n.live → Shows m procedures p → Shows n procedures q →
    ShowTheSame m n p q

-- the same at each index
pub record IsOnePicture (p q : Picture) : Type 0 where
  pub ground : IsOneGround p q
  pub depths : p.steps.depths.items ≡ q.steps.depths.items
  pub ahead : p.steps.ahead ≡ q.steps.ahead
  pub actions : p.steps.actions.items ≡ q.steps.actions.items
  pub since : p.steps.since.items ≡ q.steps.since.items
  pub races : p.steps.races.items ≡ q.steps.races.items
  pub end : IsOneEnd p q

-- of one run, event by event in one order, as a saved trace has it, pictures show the same, index by index
abbrev pub OneRunShowsTheSame : Type 0
OneRunShowsTheSame =
    (m : AtMachine) (procedures : List Procedure) (p q : Picture) (low next : ℕ) → Rising low m.live next →
    Shows m procedures p → Shows m procedures q → IsOnePicture p q
