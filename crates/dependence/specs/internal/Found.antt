-- What is found of the live events that a new one may follow, by its places and by its variables.
-- No reader has to believe it: the proof of `candidates` ties it to `Candidates`.
use Rattle.std.specs.Prelude.{◌≡◌, ◌⊎◌, ℕ, suc, ◌<◌, ◌≤◌, ◌^◌, List, [], Some}
use Rattle.address.specs.Places.{Before}
use Rattle.syntax.specs.Lists.{In}
use Rattle.dependence.specs.LastEvents.{IsAt}
use Rattle.dependence.specs.declared.places.PlaceTable.{PlaceTable}
use Rattle.runs.specs.Dependence.{SomeBefore, Directly}
use Rattle.runs.specs.Events.{places}
use Rattle.runs.specs.Live.{Live, Rising, LiveAt, DependsOn, LastWriter}
use Rattle.runs.specs.Moves.{Place}
use Rattle.runs.specs.declared.event.Event.{Event}
use Rattle.dependence.specs.declared.accesses.NewEvent.{NewEvent}
use Rattle.dependence.specs.declared.tables.Tables.{Tables}
use Rattle.dependence.specs.internal.Tabled.{IsTabled, UsesOf}

-- to the tickets `old` some were added, of events before one of these places; and each other event before one of them
-- is before the place of one of these tickets
pub record FoundByPlace (table : PlaceTable) (bs : List Place) (old new : List ℕ) : Type 0 where
  pub kept : (t : ℕ) → In t old → In t new
  pub sound : (t : ℕ) → In t new → In t old ⊎ ((a b : Place) × IsAt table a t × In b bs × Before a b)
  pub complete : (a b : Place) (t : ℕ) → IsAt table a t → In b bs → Before a b →
      (c : Place) × (u : ℕ) × IsAt table c u × In u new × ((a ≡ c) ⊎ Before a c)

-- these are found by the places of a new event f, in tables that hold the live events
abbrev pub PlacesFound : Live → Event → List ℕ → Type 0
PlacesFound l f found = (held : Tables) × IsTabled l held × FoundByPlace held.places (places f) [] found

-- the event of ticket t is live, and has an address before one of f
abbrev pub IsBefore : Live → Event → ℕ → Type 0
IsBefore l f t = (e : Event) × LiveAt l t e × SomeBefore e f

-- the event of ticket t has an address before one of f, or one that depends on it has
abbrev pub LeadsBefore : Live → Event → ℕ → Type 0
LeadsBefore l f t = (u : ℕ) × IsBefore l f u × DependsOn l t u

-- to the tickets `old` some were added, of events on which f depends directly; and those of which P holds are among
-- them, but for those that lead to an event with an address before one of f
pub record AccessesFound (l : Live) (f : Event) (P : ℕ → Type 0) (old new : List ℕ) : Type 0 where
  pub kept : (t : ℕ) → In t old → In t new
  pub sound : (t : ℕ) → In t new → In t old ⊎ ((e : Event) × LiveAt l t e × Directly e f)
  pub complete : (t : ℕ) (e : Event) → LiveAt l t e → P t → LeadsBefore l f t ⊎ In t new

-- the event of ticket t reads the variable x, and no event writes x after it
pub record ReaderSince (l : Live) (x t : ℕ) : Type 0 where
  pub event : Event
  pub live : LiveAt l t event
  pub reads : In x event.read
  pub last : (w : ℕ) → LastWriter l x w → w ≤ t

-- an event of a ticket behind w and less than `below` reads the variable x, and has an address before one of f
pub record IsReadBefore (l : Live) (f : Event) (x w below : ℕ) : Type 0 where
  pub ticket : ℕ
  pub event : Event
  pub live : LiveAt l ticket event
  pub reads : In x event.read
  pub behind : w < ticket
  pub within : ticket < below
  pub before : SomeBefore event f

-- n is the first ticket behind all of these, 0 where there are none; the greatest ticket that can be has none behind it
pub record FirstBehind (ts : List ℕ) (n : ℕ) : Type 0 where
  pub behind : (t : ℕ) → In t ts → (t < n) ⊎ (suc n ≡ 2 ^ 64)
  pub near : (n ≡ 0) ⊎ ((t : ℕ) × In t ts × (n ≤ suc t))

-- the event of ticket t is the last to write a variable that f reads
abbrev pub WritesOneRead : Live → List ℕ → ℕ → Type 0
WritesOneRead l read t = (x : ℕ) × In x read × LastWriter l x t

-- the event of ticket t is the last to write the variable that f writes, or reads it since
abbrev pub UsesWritten : Live → Event → ℕ → Type 0
UsesWritten l f t = (x : ℕ) × (f.written ≡ Some x) × (LastWriter l x t ⊎ ReaderSince l x t)

-- the new event's ticket is greater than the live ones, and the tables hold their uses
pub record IsNewEvent (new : NewEvent) : Type 0 where
  pub rising : Rising 0 new.list.now.live new.ticket
  pub tables : UsesOf new.list.now.live new.tables.now

-- the event of ticket t is live, and f depends directly on it
abbrev pub IsDirect : Live → Event → ℕ → Type 0
IsDirect l f t = (e : Event) × LiveAt l t e × Directly e f
