-- What holds of the marks while they are taken away.
-- No reader has to believe it: the contract of `deadlocked_among` ties it to `TellsDeadlocked`.
use Rattle.std.specs.Prelude.{◌≡◌, ◌⊎◌, ℕ, List, length, map, Bool, true, false, Some, slice_get}
use Rattle.syntax.specs.Lists.{In}
use Rattle.system.specs.Residual.{Residual}
use Rattle.runs.specs.Moves.{Place}
use Rattle.local_actions.specs.declared.action.LocalAction.{LocalAction}
use Rattle.rings.specs.Partners.{partner_in}
use Rattle.rings.specs.Rings.{Helped, HoldEachOther}
use Rattle.rings.specs.declared.partner.Partner.{Partner}
use Rattle.rings.specs.declared.place_uses.PlaceUses.{PlaceUses}
use Rattle.rings.specs.declared.tables.Tables.{Tables}
use Rattle.rings.specs.internal.Loosened.{AllFirm, is_free, is_marked}
use Rattle.rings.specs.internal.Search.{same_at}
use Rattle.rings.specs.internal.Standing.{group_of}
use Rattle.rings.specs.internal.Tally.{Counted, count_of}

-- places that hold each other back keep their marks
abbrev pub Keeps : List LocalAction → List Partner → List Bool → List Bool → Type 0
Keeps xs ps hs marks =
    (r : Residual) (help : Helped) → ps ≡ map (partner_in r) xs → hs ≡ map help xs → (places : List Place)
    → HoldEachOther (λ x. In x xs) help r places
    → (i : ℕ) (x : LocalAction) → slice_get xs i ≡ Some x → In x.place places → is_marked (slice_get marks i) ≡ true

-- for how many the action waits that has the partner
abbrev pub count_for : PlaceUses → List ℕ → List Partner → ℕ → ℕ
count_for waiters counts ps i = count_of counts (group_of waiters (slice_get ps i))

-- action i is not helped, and held back by one for which it waits, or by none that it could wait for
abbrev pub Sturdy : List Partner → List Bool → PlaceUses → List ℕ → ℕ → Type 0
Sturdy ps hs waiters counts i =
    (is_marked (slice_get hs i) ≡ false) × (is_free (slice_get ps i) (count_for waiters counts ps i) ≡ false)

pub record Loosening (xs : List LocalAction) (ps : List Partner) (hs marks : List Bool) (tables : Tables)
    (counts todo : List ℕ) : Type 0 where
  pub size : length marks ≡ length xs
  pub sizes : length counts ≡ tables.waiters.count
  -- those at one place are marked together
  pub alike : (i j : ℕ) → same_at xs i j ≡ true → is_marked (slice_get marks i) ≡ is_marked (slice_get marks j)
  pub keeps : Keeps xs ps hs marks
  pub counted : Counted tables.above (length xs) marks counts
  -- what is marked is sturdy, or is looked at later
  pub pending : (i : ℕ) → is_marked (slice_get marks i) ≡ true → In i todo ⊎ Sturdy ps hs tables.waiters counts i

-- and nothing is left to be looked at: each that is marked is firm
pub record Loosened (xs : List LocalAction) (ps : List Partner) (hs marks : List Bool) (tables : Tables)
    (counts todo : List ℕ) : Type 0 where
  pub loosening : Loosening xs ps hs marks tables counts todo
  pub firm : AllFirm xs ps hs marks
