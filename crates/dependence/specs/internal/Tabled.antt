-- The tables of last events beside the live events: what they hold, and what is put in and taken out.
-- No reader has to believe it: contracts see a `Live` as `Shown`, which has no tables.
use Rattle.std.specs.Prelude.{◌≡◌, ◌⊎◌, ◌↔◌, ℕ, ◌<◌, List, [], ◌∷◌, Option, Some, None}
use Rattle.address.specs.Places.{Before, Apart}
use Rattle.syntax.specs.Lists.{In}
use Rattle.dependence.specs.LastEvents.{IsAt, Uses}
use Rattle.dependence.specs.declared.places.PlaceTable.{PlaceTable}
use Rattle.dependence.specs.declared.uses.UseTable.{UseTable}
use Rattle.runs.specs.Events.{places}
use Rattle.runs.specs.Live.{Live, LiveAt}
use Rattle.runs.specs.Moves.{Place}
use Rattle.runs.specs.declared.event.Event.{Event}
use Rattle.dependence.specs.declared.tables.Tables.{Tables}

-- at each place the event that stands there, and of each variable the events that write it and those that read it
pub record TablesOf (l : Live) (tables : Tables) : Type 0 where
  pub places : (a : Place) (t : ℕ) → IsAt tables.places a t ↔ ((e : Event) × LiveAt l t e × In a (places e))
  pub writers : (x t : ℕ) → Uses tables.writers x t ↔ ((e : Event) × LiveAt l t e × (e.written ≡ Some x))
  pub readers : (x t : ℕ) → Uses tables.readers x t ↔ ((e : Event) × LiveAt l t e × In x e.read)

-- of each variable the events that write it and those that read it
pub record UsesOf (l : Live) (tables : Tables) : Type 0 where
  pub writers : (x t : ℕ) → Uses tables.writers x t ↔ ((e : Event) × LiveAt l t e × (e.written ≡ Some x))
  pub readers : (x t : ℕ) → Uses tables.readers x t ↔ ((e : Event) × LiveAt l t e × In x e.read)

-- each address of an event is before each address of a later one or apart from it, and the two of one event are apart
pub record Placed (l : Live) : Type 0 where
  pub between : (t u : ℕ) (e f : Event) (a b : Place) → LiveAt l t e → LiveAt l u f → t < u → In a (places e) →
      In b (places f) → Before a b ⊎ Apart a b
  pub own : (t : ℕ) (e : Event) (b : Place) → LiveAt l t e → e.second ≡ Some b → Apart e.first b

-- what holds of the tables at every moment
pub record IsTabled (l : Live) (held : Tables) : Type 0 where
  pub tables : TablesOf l held
  pub placed : Placed l

-- the event of ticket n is at some of these places beside what was there
pub record MorePlaces (old : PlaceTable) (n : ℕ) (ps : List Place) (new : PlaceTable) : Type 0 where
  pub kept : (a : Place) (t : ℕ) → IsAt old a t → IsAt new a t
  pub only : (a : Place) (t : ℕ) → IsAt new a t → IsAt old a t ⊎ (In a ps × (t ≡ n))

-- the event of ticket n uses some of these numbers beside the uses before
pub record MoreUses (old : UseTable) (n : ℕ) (xs : List ℕ) (new : UseTable) : Type 0 where
  pub kept : (x t : ℕ) → Uses old x t → Uses new x t
  pub only : (x t : ℕ) → Uses new x t → Uses old x t ⊎ (In x xs × (t ≡ n))

-- no place of these is left
abbrev pub FewerPlaces : PlaceTable → List Place → PlaceTable → Type 0
FewerPlaces old ps new = (a : Place) (t : ℕ) → IsAt new a t ↔ (IsAt old a t × (In a ps → ⊥))

-- no use of these by the event of ticket n is left
abbrev pub FewerUses : UseTable → ℕ → List ℕ → UseTable → Type 0
FewerUses old n xs new = (x t : ℕ) → Uses new x t ↔ (Uses old x t × ((In x xs × (t ≡ n)) → ⊥))

-- the variable that is written, if there is one
abbrev pub written_of : Option ℕ → List ℕ
written_of None = []
written_of (Some x) = x ∷ []

-- some of the event of ticket n is in the tables beside what was there
pub record MoreTables (old : Tables) (n : ℕ) (f : Event) (new : Tables) : Type 0 where
  pub places : MorePlaces old.places n (places f) new.places
  pub writers : MoreUses old.writers n (written_of f.written) new.writers
  pub readers : MoreUses old.readers n f.read new.readers

-- all of the event of ticket n is in the tables
pub record HasEvent (n : ℕ) (f : Event) (tables : Tables) : Type 0 where
  pub places : (a : Place) → In a (places f) → IsAt tables.places a n
  pub writers : (x : ℕ) → In x (written_of f.written) → Uses tables.writers x n
  pub readers : (x : ℕ) → In x f.read → Uses tables.readers x n

-- nothing of the event of ticket n is in the tables
pub record FewerTables (old : Tables) (n : ℕ) (f : Event) (new : Tables) : Type 0 where
  pub places : FewerPlaces old.places (places f) new.places
  pub writers : FewerUses old.writers n (written_of f.written) new.writers
  pub readers : FewerUses old.readers n f.read new.readers

-- both hold the same
pub record SameTables (old new : Tables) : Type 0 where
  pub places : (a : Place) (t : ℕ) → IsAt new.places a t ↔ IsAt old.places a t
  pub writers : (x t : ℕ) → Uses new.writers x t ↔ Uses old.writers x t
  pub readers : (x t : ℕ) → Uses new.readers x t ↔ Uses old.readers x t

-- the event of ticket n is not in the tables, and none stands at its places, which are apart
pub record IsFresh (tables : Tables) (n : ℕ) (f : Event) : Type 0 where
  pub places : (a : Place) (t : ℕ) → In a (places f) → IsAt tables.places a t → ⊥
  pub writers : (x : ℕ) → Uses tables.writers x n → ⊥
  pub readers : (x : ℕ) → Uses tables.readers x n → ⊥
  pub own : (b : Place) → f.second ≡ Some b → Apart f.first b
