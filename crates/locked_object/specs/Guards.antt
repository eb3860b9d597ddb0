-- The rule of the cell, and its two steps.
-- It says where the keeper is by what the cell's only seat knows. While the lock is free that seat rests on the lock,
-- and the lock lends seats of one view alone, `Home`: so while the lock is free the keeper is at home.
use Rattle.std.specs.Prelude.{◌≡◌, ℕ, List, [], ◌∷◌}
use mathlib.Core.Option.{Option, none, some}
use Rattle.atomic_table.specs.Table.{State, Me}
use Rattle.atomic_table.specs.Seated.{TableId}
use Rattle.locked_object.specs.Keepers.{IsKeeperFor}
use Rattle.locked_object.specs.declared.keeper.Keeper.{Keeper}
use Rattle.locked_object.specs.declared.cell.Place.{Place}
use Rattle.locked_object.specs.declared.cell.Place.TheVariants.{Home, Away}

module _ {D C R : Type 0} where
  -- while the seat at the cell knows the keeper at home, it is there, and stands for the recorded history of
  -- so many passes
  abbrev pub Stays : (D → ℕ → C → R → D → Type 0) → TableId → D → ℕ → Place → List (Option (Keeper D C R)) → Type 0
  Stays performs table opening count Home homes =
      (k : Keeper D C R) × (homes ≡ some k ∷ []) × IsKeeperFor performs table opening count k
  Stays performs table opening count Away homes = homes ≡ none ∷ []

  -- one seat, and one keeper
  abbrev pub Guards : (D → ℕ → C → R → D → Type 0) → TableId → D → ℕ → State (Keeper D C R) Place → Type 0
  Guards performs table opening count s =
      (v : Place) × (s.views ≡ v ∷ []) × Stays performs table opening count v s.homes

  -- the seat has the keeper, of which this is known
  abbrev pub TakesKeeper : (Keeper D C R → Type 0) → Me (Keeper D C R) Place → Type 0
  TakesKeeper known n = (k : Keeper D C R) × (n ≡ (Away, (0, k) ∷ [])) × known k

  -- it has put the keeper back
  abbrev pub GivesKeeper : Me (Keeper D C R) Place → Type 0
  GivesKeeper n = n ≡ (Home, [])
