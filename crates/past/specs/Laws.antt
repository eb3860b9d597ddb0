-- What the lines of a past tell of a variable that was read: the value that it had then, and the step that wrote it.
use Rattle.std.specs.Prelude.{◌≡◌, ◌≤◌, ◌<◌, ℕ, List, [], ◌∷◌, ◌++◌, Bool, Some, MatchOption, length, slice_get, take}
use Rattle.value.specs.Word.{Word}
use Rattle.syntax.specs.Lists.{In}
use Rattle.system.specs.declared.system.System.{System}
use Rattle.runs.specs.Live.{Live, LiveAt, Rising}
use Rattle.runs.specs.declared.event.Event.{Event}
use Rattle.past.specs.Past.{ListsPast, tickets_of}
use Rattle.past.specs.PastText.{Values, noted, noted_at, zeros}
use Rattle.past.specs.declared.held.Held.{Held}
use Rattle.past.specs.declared.past.Past.{Past}
use Rattle.past.specs.declared.past.PastEvent.{PastEvent}

-- the values behind these live events
abbrev pub values_behind : Values → Live → Values
values_behind values [] = values
values_behind values (x ∷ l) = values_behind (noted x.0 x.1 values) l

-- the values with which a line is told, behind the lines of these
abbrev pub values_told : Live → Values → List PastEvent → Values
values_told l values [] = values
values_told l values (p ∷ told) = values_told l (noted_at (slice_get l p.index) values) told

-- a variable that a told event read has the same value and writer behind the told events before it as behind all
-- before it
abbrev pub ToldAsRead : Type 0
ToldAsRead =
    (next : ℕ) (l : Live) (all : Bool) (t : ℕ) (past : Past) (front back : List PastEvent) (p : PastEvent) (e : Event) (x : ℕ)
    (values : Values) → Rising 0 l next → ListsPast all l t past → past.events ≡ front ++ p ∷ back
    → slice_get l p.index ≡ Some (p.ticket, e) → In x e.read
    → slice_get (values_told l values front) x ≡ slice_get (values_behind values (take p.index l)) x

-- the event gave the variable x this value
abbrev pub Wrote : Event → ℕ → Word → Type 0
Wrote e x v = (e.written ≡ Some x) × (e.value ≡ Some v)

-- none of these live events gave x a value
abbrev pub NoneWrote : Live → ℕ → Type 0
NoneWrote l x = (u : ℕ) (f : Event) (w : Word) → LiveAt l u f → Wrote f x w → ⊥

-- of these live events, the last that gave x a value has the ticket t, and these are the bits of the value
pub record WroteLast (l : Live) (x t number : ℕ) : Type 0 where
  pub event : Event
  pub value : Word
  pub live : LiveAt l t event
  pub wrote : Wrote event x value
  pub bits : number ≡ value.bits
  pub last : (u : ℕ) (f : Event) (w : Word) → LiveAt l u f → Wrote f x w → u ≤ t

-- x holds this behind these live events: what the last that wrote it gave it, and 0 where none did
abbrev pub Holds : Live → ℕ → Held → Type 0
Holds l x held = MatchOption held.writer ((held.bits ≡ 0) × NoneWrote l x) (λ t. WroteLast l x t held.bits)

-- of a variable that a told event read, the line tells what it held behind all live events before; the writer is told
-- before
abbrev pub WritersTold : Type 0
WritersTold =
    (next : ℕ) (system : System) (l : Live) (all : Bool) (t : ℕ) (past : Past) (front back : List PastEvent)
    (p : PastEvent) (e : Event) (x : ℕ) → Rising 0 l next → ListsPast all l t past → past.events ≡ front ++ p ∷ back
    → slice_get l p.index ≡ Some (p.ticket, e) → In x e.read → x < length system.variables
    → (held : Held) × (slice_get (values_told l (zeros system) front) x ≡ Some held) × Holds (take p.index l) x held
    × ((u : ℕ) → held.writer ≡ Some u → In u (tickets_of front))
