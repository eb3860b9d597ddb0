-- What the tables of last events hold, and what they tell.
use Rattle.std.specs.Prelude.{◌≡◌, ◌≢◌, ◌⊎◌, ℕ, ◌<◌, ◌≤◌, List, [], ◌∷◌, ◌++◌, Option, Some, None, slice_index_or}
use Rattle.std.specs.Map.{lookup}
use Rattle.std.specs.Ordering.{is_eq}
use Rattle.address.specs.Places.{Before, Apart}
use Rattle.address.specs.Order.{order_of}
use Rattle.address.specs.declared.Entry.{Entry}
use Rattle.address.specs.declared.Entry.TheVariants.{Ordered}
use Rattle.syntax.specs.Lists.{In}
use Rattle.dependence.specs.declared.places.PlaceTable.{PlaceTable}
use Rattle.dependence.specs.declared.uses.UseTable.{UseTable}

-- the ticket of the event that stands at the place a
abbrev pub ticket_at : PlaceTable → List Entry → Option ℕ
ticket_at table a = lookup (λ (k : List Entry). is_eq (order_of a k)) table

-- the place of the first child of what stands at a
abbrev pub first_child : List Entry → List Entry
first_child a = a ++ Ordered 0 ∷ []

-- the event of ticket t stands at the place a
abbrev pub IsAt : PlaceTable → List Entry → ℕ → Type 0
IsAt table a t = ticket_at table a ≡ Some t

-- both tables hold the same
abbrev pub Same : PlaceTable → PlaceTable → Type 0
Same old new = (a : List Entry) → ticket_at new a ≡ ticket_at old a

-- the event of ticket t stands at the place a, and at each other place what stood there
pub record PutAt (old : PlaceTable) (a : List Entry) (t : ℕ) (new : PlaceTable) : Type 0 where
  pub here : IsAt new a t
  pub others : (b : List Entry) → b ≢ a → ticket_at new b ≡ ticket_at old b

-- none stands at the place a, and at each other place what stood there
pub record RemovedAt (old : PlaceTable) (a : List Entry) (new : PlaceTable) : Type 0 where
  pub here : ticket_at new a ≡ None
  pub others : (b : List Entry) → b ≢ a → ticket_at new b ≡ ticket_at old b

-- two places are one, or one is before the other, or they are apart
abbrev pub OneTree : List Entry → List Entry → Type 0
OneTree a b = (a ≡ b) ⊎ Before a b ⊎ Before b a ⊎ Apart a b

-- each two places of the table stand so to one another, and each is before a or apart from it
pub record Orderly (table : PlaceTable) (a : List Entry) : Type 0 where
  pub inside : (b c : List Entry) (t u : ℕ) → IsAt table b t → IsAt table c u → OneTree b c
  pub outside : (b : List Entry) (t : ℕ) → IsAt table b t → Before b a ⊎ Apart b a

-- to the tickets `old` some were added, each of an event before the place a; and each other event before a is before
-- the place of one of them
pub record LastBefore (table : PlaceTable) (a : List Entry) (old new : List ℕ) : Type 0 where
  pub kept : (t : ℕ) → In t old → In t new
  pub sound : (t : ℕ) → In t new → In t old ⊎ ((b : List Entry) × IsAt table b t × Before b a)
  pub complete : (b : List Entry) (t : ℕ) → IsAt table b t → Before b a →
      (c : List Entry) × (u : ℕ) × IsAt table c u × In u new × ((b ≡ c) ⊎ Before b c)

-- the event of ticket t uses the number x: the table has the tickets of each number
unfoldable pub Uses : UseTable → ℕ → ℕ → Type 0
Uses table x t = In t (slice_index_or table x [])

-- t is the greatest ticket, less than `below`, of an event that uses the number x
pub record LastUse (table : UseTable) (x below t : ℕ) : Type 0 where
  pub uses : Uses table x t
  pub less : t < below
  pub last : (u : ℕ) → Uses table x u → u < below → u ≤ t

-- t is the least ticket, from `from` on and less than `below`, of an event that uses the number x
pub record FirstUse (table : UseTable) (x from below t : ℕ) : Type 0 where
  pub uses : Uses table x t
  pub starts : from ≤ t
  pub less : t < below
  pub first : (u : ℕ) → Uses table x u → from ≤ u → u < below → t ≤ u
