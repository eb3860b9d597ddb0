-- Which numbers stand at which place, and who waits behind which place, as the code keeps them.
-- No reader has to believe it: the contract of `deadlocked_among` ties it to `TellsDeadlocked`.
use Rattle.std.specs.Prelude.{◌≡◌, ◌↔◌, ◌<◌, ℕ, List, Option, Some, None, Vec, slice_get}
use Rattle.std.specs.Global.{Global}
use Rattle.std.specs.Map.{lookup}
use Rattle.std.specs.Ordering.{is_eq}
use Rattle.address.specs.Order.{order_of}
use Rattle.address.specs.declared.Entry.{Entry}
use Rattle.runs.specs.Moves.{Place}
use Rattle.dependence.specs.LastEvents.{Uses}
use Rattle.dependence.specs.declared.uses.UseTable.{UseTable}
use Rattle.local_actions.specs.Actions.{Under}
use Rattle.local_actions.specs.declared.action.LocalAction.{LocalAction}
use Rattle.rings.specs.declared.partner.Partner.{Partner}
use Rattle.rings.specs.declared.partner.Partner.TheVariants as partner
use Rattle.rings.specs.declared.place_uses.PlaceUses.{PlaceUses}
use Rattle.rings.specs.declared.tables.Tables.{Tables}
use Rattle.rings.specs.internal.Search.{place_at}

-- the row of a place
abbrev pub row_at : PlaceUses → Place → Option ℕ
row_at table a = lookup (λ (k : Vec Entry Global). is_eq (order_of a k.items)) table.rows.entries

-- the number i stands at the place a
abbrev pub StandsAt : PlaceUses → Place → ℕ → Type 0
StandsAt table a i = (n : ℕ) × (row_at table a ≡ Some n) × Uses table.uses n i

-- each place has a row of its own, of the first ones, and no others are used
pub record Sound (table : PlaceUses) : Type 0 where
  pub below : (a : Place) (n : ℕ) → row_at table a ≡ Some n → n < table.count
  pub apart : (a b : Place) (n : ℕ) → row_at table a ≡ Some n → row_at table b ≡ Some n → a ≡ b
  pub used : (n i : ℕ) → Uses table.uses n i → n < table.count

-- at each place stand the partners that come behind it
abbrev pub HasWaiters : PlaceUses → List Partner → Type 0
HasWaiters table ps = (a : Place) (i : ℕ) → StandsAt table a i ↔ (slice_get ps i ≡ Some (partner.Behind a))

-- at each place stand the actions there
abbrev pub HasActions : PlaceUses → List LocalAction → Type 0
HasActions table xs = (a : Place) (i : ℕ) → StandsAt table a i ↔ (place_at xs i ≡ Some a)

-- the row of the place of an action that may be there
abbrev pub row_of : PlaceUses → Option LocalAction → Option ℕ
row_of table (Some x) = row_at table x.place
row_of table None = None

-- the row of the place behind which a partner comes, if one does
abbrev pub group_of : PlaceUses → Option Partner → Option ℕ
group_of table (Some (partner.Behind p)) = row_at table p
group_of table (Some partner.Gone) = None
group_of table (Some partner.Open) = None
group_of table None = None

-- the row of the place or of one above it
abbrev pub RowOver : PlaceUses → Place → ℕ → Type 0
RowOver table a g = (p : Place) × Under p a × (row_at table p ≡ Some g)

-- action j stands at the place of the row or below it
abbrev pub StandsUnder : PlaceUses → List LocalAction → ℕ → ℕ → Type 0
StandsUnder table xs g j = (a : Place) × (place_at xs j ≡ Some a) × RowOver table a g

-- in the row of action j stand the rows of the places at or above its own
abbrev pub HasAbove : UseTable → PlaceUses → List LocalAction → Type 0
HasAbove above table xs = (j g : ℕ) → Uses above j g ↔ StandsUnder table xs g j

-- in each row stand the actions at its place and below it
abbrev pub HasUnder : UseTable → PlaceUses → List LocalAction → Type 0
HasUnder under table xs = (g j : ℕ) → Uses under g j ↔ StandsUnder table xs g j

-- the tables of these actions, which have these partners
pub record HasTables (tables : Tables) (xs : List LocalAction) (ps : List Partner) : Type 0 where
  pub places : Sound tables.standing
  pub standing : HasActions tables.standing xs
  pub groups : Sound tables.waiters
  pub waiters : HasWaiters tables.waiters ps
  pub above : HasAbove tables.above tables.waiters xs
