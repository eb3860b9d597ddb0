-- The laws of what is drawn of a run: a depth is the length of the longest chain of followers, and of that of causes, a
-- lane is a chain, and equal runs have the same depths, followers, races, lines and ready events.
use Rattle.std.specs.Prelude.{◌≡◌, ℕ, zero, suc, ◌<◌, ◌≤◌, List, Some, slice_get, slice_index}
use Rattle.syntax.specs.Lists.{In}
use Rattle.system.specs.declared.system.System.{System}
use Rattle.branch_lanes.specs.Lanes.{lane_of}
use Rattle.runs.specs.Dependence.{Respecting}
use Rattle.runs.specs.Events.{places}
use Rattle.runs.specs.Live.{Live, LiveAt, Rising, events}
use Rattle.runs.specs.Moves.{Place}
use Rattle.runs.specs.Ready.{ReadyList}
use Rattle.runs.specs.Steps.{State, Run, opening}
use Rattle.runs.specs.declared.event.Event.{Event}
use Rattle.dependence.specs.Followers.{DirectDependent, Follower}
use Rattle.dependence.specs.EventPlaces.{line_after}
use Rattle.run_depths.specs.Depths.{AreDepths, StandsAt}
use Rattle.run_depths.specs.Races.{AreRaces}
use Rattle.run_depths.specs.declared.races.Race.{Race}

-- a chain of so many events leads to that of ticket u, each of which is followed by the next
abbrev pub Chain : Live → ℕ → ℕ → Type 0
Chain l zero u = Unit {0}
Chain l (suc n) u = (t : ℕ) × Follower l t u × Chain l n t

-- the longest chain that leads to the event of ticket u has d events
pub record IsLongest (l : Live) (u d : ℕ) : Type 0 where
  pub chain : Chain l d u
  pub longest : (n : ℕ) → Chain l n u → n ≤ d

-- the depth of an event is the length of the longest chain that leads to it
abbrev pub DepthIsLongest : Type 0
DepthIsLongest =
    (l : Live) (depths : List ℕ) (i u : ℕ) → AreDepths l depths → StandsAt l u i → IsLongest l u (slice_index depths i)

-- a chain of so many causes leads to the event of ticket u: on each of them the next depends directly
abbrev pub CauseChain : Live → ℕ → ℕ → Type 0
CauseChain l zero u = Unit {0}
CauseChain l (suc n) u = (t : ℕ) × DirectDependent l t u × CauseChain l n t

-- the longest chain of causes that leads to the event of ticket u has d events
pub record IsLongestOfCauses (l : Live) (u d : ℕ) : Type 0 where
  pub chain : CauseChain l d u
  pub longest : (n : ℕ) → CauseChain l n u → n ≤ d

-- the depth of an event is the length of the longest chain of causes that leads to it, too
abbrev pub DepthIsLongestOfCauses : Type 0
DepthIsLongestOfCauses =
    (l : Live) (depths : List ℕ) (low next i u : ℕ) → Rising low l next → AreDepths l depths → StandsAt l u i →
    IsLongestOfCauses l u (slice_index depths i)

-- the events of the one run in the system, those of the other are a respecting order of them, and both stand in order
-- of tickets
pub record AreEqualRuns (system : System) (l m : Live) : Type 0 where
  pub state : State
  pub runs : Run (opening system) (events l) state
  pub forth : Respecting (events l) (events m)
  pub back : Respecting (events m) (events l)
  pub low : ℕ
  pub next : ℕ
  pub rising : Rising low l next
  pub other_low : ℕ
  pub other_next : ℕ
  pub other_rising : Rising other_low m other_next

-- in equal runs the same events follow one another, whatever their tickets
abbrev pub FollowersAgree : Type 0
FollowersAgree =
    (system : System) (l m : Live) (t u v w : ℕ) (e f : Event) → AreEqualRuns system l m → LiveAt l t e → LiveAt l u f →
    LiveAt m v e → LiveAt m w f → Follower l t u → Follower m v w

-- in equal runs an event has one depth
abbrev pub DepthsAgree : Type 0
DepthsAgree =
    (system : System) (l m : Live) (depths others : List ℕ) (i j t u : ℕ) (e : Event) → AreEqualRuns system l m →
    AreDepths l depths → AreDepths m others → slice_get l i ≡ Some (t, e) → slice_get m j ≡ Some (u, e) →
    slice_index depths i ≡ slice_index others j

-- in equal runs the same orders are made by a variable alone, and by the same one
abbrev pub RacesAgree : Type 0
RacesAgree =
    (system : System) (l m : Live) (races others : List Race) (r : Race) (i j t u v w : ℕ) (e f : Event) →
    AreEqualRuns system l m →
    AreRaces l races → AreRaces m others → In r races → slice_get l r.cause ≡ Some (t, e) →
    slice_get l r.event ≡ Some (u, f) →
    slice_get m i ≡ Some (v, e) → slice_get m j ≡ Some (w, f) →
    In (record { cause = i; event = j; variable = r.variable }) others

-- in equal runs the same events can be taken next, in the same order
abbrev pub ReadyAgree : Type 0
ReadyAgree =
    (system : System) (l m : Live) (S T : State) (es fs : List Event) → AreEqualRuns system l m →
    Run (opening system) (events l) S → Run (opening system) (events m) T → ReadyList S es → ReadyList T fs → es ≡ fs

-- in equal runs a place has one line
abbrev pub LinesAgree : Type 0
LinesAgree =
    (system : System) (l m : Live) (place : Place) → AreEqualRuns system l m →
    line_after (events l) system place ≡ line_after (events m) system place

-- of two events of a run with places in one lane, the later depends directly on the earlier: each lane is a chain
abbrev pub LanesAreChains : Type 0
LanesAreChains =
    (system : System) (l : Live) (S : State) (low next t u : ℕ) (e f : Event) (a b : Place) →
    Run (opening system) (events l) S → Rising low l next → LiveAt l t e → LiveAt l u f → t < u →
    In a (places e) → In b (places f) → lane_of a ≡ lane_of b → DirectDependent l t u
