-- What a search for a ring has gone through, as the code keeps it.
-- No reader has to believe it: the contract of `ring_among` ties it to `TellsRing`.
use Rattle.std.specs.Prelude.{◌≡◌, ℕ, ◌≤◌, List, length, Bool, true, false, Option, Some, None, slice_get, slice_set}
use Rattle.syntax.specs.Lists.{In}
use Rattle.dependence.specs.LastEvents.{Uses}
use Rattle.dependence.specs.declared.uses.UseTable.{UseTable}
use Rattle.local_actions.specs.declared.action.LocalAction.{LocalAction}
use Rattle.rings.specs.declared.place_uses.PlaceUses.{PlaceUses}
use Rattle.rings.specs.declared.ring.Seen.{Seen}
use Rattle.rings.specs.declared.ring.Seen.TheVariants.{OnWay, Done}
use Rattle.rings.specs.declared.ring.Trail.{Trail}
use Rattle.rings.specs.declared.tables.Tables.{Tables}
use Rattle.rings.specs.internal.Loosened.{is_marked}
use Rattle.rings.specs.internal.Search.{is_open}
use Rattle.rings.specs.internal.Standing.{StandsUnder, row_of}

-- in each row stand actions at its place and below it, and all of them at which the search is not done
pub record Opens (waiters : PlaceUses) (xs : List LocalAction) (open_ : UseTable) (seen : List Seen) : Type 0 where
  pub sound : (g j : ℕ) → Uses open_ g j → StandsUnder waiters xs g j
  pub kept : (g j : ℕ) → StandsUnder waiters xs g j → is_open (slice_get seen j) ≡ true → Uses open_ g j

-- some are gone at which the search is done
pub record Fewer (seen : List Seen) (old new : UseTable) : Type 0 where
  pub sound : (g j : ℕ) → Uses new g j → Uses old g j
  pub kept : (g j : ℕ) → Uses old g j → is_open (slice_get seen j) ≡ true → Uses new g j

-- the last of the row at which the search is not done; or there is none
abbrev pub NextIn : List Seen → UseTable → ℕ → Option ℕ → Type 0
NextIn seen table g (Some j) =
    Uses table g j × (is_open (slice_get seen j) ≡ true)
    × ((k : ℕ) → Uses table g k → is_open (slice_get seen k) ≡ true → k ≤ j)
NextIn seen table g None = (j : ℕ) → Uses table g j → is_open (slice_get seen j) ≡ false

-- whether one on the way stands in the row, if there is one
abbrev pub holds : List Bool → Option ℕ → Bool
holds held (Some r) = is_marked (slice_get held r)
holds held None = false

-- each on the way does
abbrev pub HoldsWay : PlaceUses → List LocalAction → List Bool → List ℕ → Type 0
HoldsWay standing xs held way = (j : ℕ) → In j way → holds held (row_of standing (slice_get xs j)) ≡ true

pub record SoundTrail (tables : Tables) (xs : List LocalAction) (trail : Trail) (way : List ℕ) : Type 0 where
  pub opens : Opens tables.waiters xs trail.left trail.seen.items
  pub size : length trail.held.items ≡ tables.standing.count
  pub on_way : HoldsWay tables.standing xs trail.held.items way

-- the mark of a row, if there is one, is this
pub record SetAt (row : Option ℕ) (b : Bool) (old new : List Bool) : Type 0 where
  pub size : length new ≡ length old
  pub here : (r : ℕ) → row ≡ Some r → holds new (Some r) ≡ b
  pub others : (o : Option ℕ) → (o ≡ row → ⊥) → holds new o ≡ holds old o

-- action i is on the way
pub record Entered (standing : PlaceUses) (xs : List LocalAction) (i : ℕ) (old new : Trail) : Type 0 where
  pub seen : new.seen.items ≡ slice_set old.seen.items i OnWay
  pub opens : new.left ≡ old.left
  pub size : length new.held.items ≡ length old.held.items
  pub here : (r : ℕ) → row_of standing (slice_get xs i) ≡ Some r → holds new.held.items (Some r) ≡ true
  pub others : (o : Option ℕ) → holds old.held.items o ≡ true → holds new.held.items o ≡ true

-- the search is done at action i
pub record Left (standing : PlaceUses) (xs : List LocalAction) (i : ℕ) (old new : Trail) : Type 0 where
  pub seen : new.seen.items ≡ slice_set old.seen.items i Done
  pub opens : new.left ≡ old.left
  pub size : length new.held.items ≡ length old.held.items
  pub others : (o : Option ℕ) → (o ≡ row_of standing (slice_get xs i) → ⊥)
      → holds old.held.items o ≡ true → holds new.held.items o ≡ true
