-- What stands in a branch: events, and the branches of parallels in it that have events.
-- No reader has to believe it: the proofs of `PlaceTable` tie it to `ticket_at`.
use Rattle.std.specs.Prelude.{◌≡◌, ℕ, ◌<◌, Bool, true, false, List, [], ◌∷◌, ◌++◌, length, map, Some, slice_get}
use Rattle.address.specs.declared.Entry.{Entry}
use Rattle.address.specs.declared.Entry.TheVariants.{Ordered, Branch}
use Rattle.syntax.specs.Lists.{Every}
use Rattle.dependence.specs.declared.branch.Seat.{Seat}
use Rattle.dependence.specs.declared.branch.Seat.TheVariants.{Event, Inner}
use Rattle.dependence.specs.LastEvents.{RemovedAt}
use Rattle.dependence.specs.internal.Search.{Rising}

-- places with the tickets of their events
abbrev pub Places : Type 0
Places = List (List Entry × ℕ)

-- the entries of a place up to its first branch number, with it
abbrev pub way_of : List Entry → List Entry
way_of [] = []
way_of (Ordered i ∷ a) = Ordered i ∷ way_of a
way_of (Branch i ∷ a) = Branch i ∷ []

-- and those behind
abbrev pub rest_of : List Entry → List Entry
rest_of [] = []
rest_of (Ordered i ∷ a) = rest_of a
rest_of (Branch i ∷ a) = a

-- the ordered entries with which a place begins
abbrev pub ordered_of : List Entry → List Entry
ordered_of [] = []
ordered_of (Ordered i ∷ a) = Ordered i ∷ ordered_of a
ordered_of (Branch i ∷ a) = []

-- the first branch number of a place, 0 where there is none
abbrev pub number_of : List Entry → ℕ
number_of [] = 0
number_of (Ordered i ∷ a) = number_of a
number_of (Branch i ∷ a) = i

-- each entry is ordered
abbrev pub AllOrdered : List Entry → Type 0
AllOrdered [] = Unit {0}
AllOrdered (Ordered i ∷ a) = AllOrdered a
AllOrdered (Branch i ∷ a) = ⊥

-- the last entry is a branch number, and no other is
abbrev pub EndsAtBranch : List Entry → Type 0
EndsAtBranch [] = ⊥
EndsAtBranch (Ordered i ∷ a) = EndsAtBranch a
EndsAtBranch (Branch i ∷ a) = a ≡ []

-- up to the first branch number there is nothing more
abbrev pub IsWay : List Entry → Type 0
IsWay way = way_of way ≡ way

-- behind this way
abbrev pub behind_way : List Entry → Places → Places
behind_way way [] = []
behind_way way (e ∷ es) = (way ++ e.0, e.1) ∷ behind_way way es

abbrev pub seat_way : Seat → List Entry
seat_way (Event way t) = way
seat_way (Inner way inner) = way

abbrev pub seat_places : Seat → Places
seat_places (Event way t) = (way, t) ∷ []
seat_places (Inner way inner) = behind_way way inner.value

-- all of a branch
abbrev pub flat : List Seat → Places
flat [] = []
flat (s ∷ ss) = seat_places s ++ flat ss

-- the ways are of events or of branches, in which one event stands at least
abbrev pub IsSound : Seat → Type 0
IsSound (Event way t) = AllOrdered way
IsSound (Inner way inner) = EndsAtBranch way × (0 < length inner.value)

pub record IsBranch (seats : List Seat) : Type 0 where
  pub rising : Rising (map seat_way seats)
  pub sound : Every IsSound seats

-- something of this way stands at the index
abbrev pub HasSeat : List Seat → ℕ → List Entry → Type 0
HasSeat seats index way = slice_get (map seat_way seats) index ≡ Some way

-- the event alone stands there
pub record IsMadeOf (place : List Entry) (ticket : ℕ) (s : Seat) : Type 0 where
  pub sound : IsSound s
  pub way : seat_way s ≡ way_of place
  pub places : seat_places s ≡ (place, ticket) ∷ []

-- behind an event there is nothing
abbrev pub FitsBehind : Seat → List Entry → Type 0
FitsBehind (Event way t) rest = rest ≡ []
FitsBehind (Inner way inner) rest = Unit {0}

-- what stood behind the way is taken out; where nothing is left, there is nothing to keep
abbrev pub TakenAt : Seat → List Entry → Bool → Seat → Type 0
TakenAt old rest true new = RemovedAt (seat_places old) (seat_way old ++ rest) []
TakenAt old rest false new =
    IsSound new × (seat_way new ≡ seat_way old) × RemovedAt (seat_places old) (seat_way old ++ rest) (seat_places new)
