-- What the steps of a walk down the branches find.
-- No reader has to believe it: the proof of `put` ties it to `LastBefore`.
use Rattle.std.specs.Prelude.{◌≡◌, ◌⊎◌, ℕ, ◌-◌, ◌<◌, Bool, true, false, List, length, map, take, Some, slice_get}
use Rattle.std.specs.declared.cmp.Ordering.TheVariants.{Less}
use Rattle.address.specs.Places.{Before}
use Rattle.address.specs.Order.{order_of}
use Rattle.address.specs.declared.Entry.{Entry}
use Rattle.syntax.specs.Lists.{In}
use Rattle.dependence.specs.LastEvents.{IsAt, OneTree}
use Rattle.dependence.specs.declared.branch.Seat.{Seat}
use Rattle.dependence.specs.internal.Search.{Splits}
use Rattle.dependence.specs.internal.Seats.{Places, way_of, ordered_of, EndsAtBranch, seat_way, flat, IsBranch}

-- each two places stand in one tree
abbrev pub Related : Places → Type 0
Related es = (b c : List Entry) (t u : ℕ) → IsAt es b t → IsAt es c u → OneTree b c

-- the place is that of one of these tickets, or before it
abbrev pub Covered : Places → List ℕ → List Entry → Type 0
Covered es new b = (c : List Entry) × (u : ℕ) × IsAt es c u × In u new × ((b ≡ c) ⊎ Before b c)

-- to the tickets `old` some of these places were added, so that each of them is covered
pub record AddedLast (es : Places) (old new : List ℕ) : Type 0 where
  pub kept : (t : ℕ) → In t old → In t new
  pub sound : (t : ℕ) → In t new → In t old ⊎ ((b : List Entry) × IsAt es b t)
  pub complete : (b : List Entry) (t : ℕ) → IsAt es b t → Covered es new b

-- to the tickets `old` some of places before a were added, so that each place before a of which P holds is covered;
-- `some` says whether there are any
pub record AddedOf (P : List Entry → Type 0) (es : Places) (a : List Entry) (some : Bool)
    (old new : List ℕ) : Type 0 where
  pub kept : (t : ℕ) → In t old → In t new
  pub sound : (t : ℕ) → In t new → In t old ⊎ ((b : List Entry) × IsAt es b t × Before b a)
  pub complete : (b : List Entry) (t : ℕ) → IsAt es b t → Before b a → P b → Covered es new b
  pub found : some ≡ true → (c : List Entry) × (u : ℕ) × IsAt es c u × Before c a × P c × In u new
  pub none : some ≡ false → (b : List Entry) (t : ℕ) → IsAt es b t → Before b a → P b → ⊥

-- of all places before a
abbrev pub AddedBefore : Places → List Entry → Bool → List ℕ → List ℕ → Type 0
AddedBefore es a = AddedOf (λ b. Unit {0}) es a

-- of those that take the same way
abbrev pub AddedInner : Places → List Entry → Bool → List ℕ → List ℕ → Type 0
AddedInner es a = AddedOf (λ b. way_of b ≡ way_of a) es a

-- of those whose way is less than the ordered entries with which a begins
abbrev pub AddedLesser : Places → List Entry → Bool → List ℕ → List ℕ → Type 0
AddedLesser es a = AddedOf (λ b. order_of (way_of b) (ordered_of a) ≡ Less) es a

-- those before a were added; where there is none, those that are nearest before all of them
abbrev pub AddedFrom : Places → Places → List Entry → List ℕ → List ℕ → Type 0
AddedFrom near es a old new = AddedBefore es a true old new ⊎ (AddedBefore es a false old old × AddedLast near old new)

-- what stands in a branch, in one tree
pub record IsGroup (seats : List Seat) : Type 0 where
  pub branch : IsBranch seats
  pub related : Related (flat seats)

-- each of these stands before the parallel to which the ordered entries p lead, or is a branch of it
abbrev pub AllBeside : List Seat → List Entry → Type 0
AllBeside seats p =
    (s : Seat) → In s seats → (order_of (seat_way s) p ≡ Less) ⊎
    ((ordered_of (seat_way s) ≡ p) × EndsAtBranch (seat_way s))

-- so many of these ways are less than the ordered entries of the last one: it may lead into a parallel, and the others
-- into branches of it
abbrev pub IsGroupBegin : List (List Entry) → ℕ → Type 0
IsGroupBegin ways n = (w : List Entry) → slice_get ways (length ways - 1) ≡ Some w → Splits ways (ordered_of w) n

-- what stands in a branch, and where what it ends with begins
pub record IsSorted (seats : List Seat) (n : ℕ) : Type 0 where
  pub branch : IsBranch seats
  pub begins : IsGroupBegin (map seat_way seats) n

-- the first so many of these stand before the bound; where none does, there are the nearest
pub record IsNearer (before : List Seat) (bound : List Entry) (nearest nearer : List Seat) : Type 0 where
  pub count : ℕ
  pub splits : Splits (map seat_way before) bound count
  pub are : ((count ≡ 0) × (nearer ≡ nearest)) ⊎ ((0 < count) × (nearer ≡ take count before))
