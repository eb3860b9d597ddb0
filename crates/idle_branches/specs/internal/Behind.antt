-- What is offered behind a place, found entry by entry from the last one on.
-- No reader has to believe it: what it leads to is `HasBehind` of `Idle.antt`.
use Rattle.std.specs.Prelude.{ℕ, List, [], ◌∷◌, ◌++◌, Option, Some, None}
use Rattle.address.specs.Places.{Before}
use Rattle.address.specs.declared.Entry.{Entry}
use Rattle.address.specs.declared.Entry.TheVariants.{Ordered}
use Rattle.syntax.specs.Lists.{In}
use Rattle.runs.specs.Moves.{Place}
use Rattle.runs.specs.Steps.{State}
use Rattle.local_actions.specs.Actions.{Offered, Under}
use Rattle.local_actions.specs.declared.action.LocalAction.{LocalAction}
use Rattle.idle_branches.specs.Idle.{HasBehind}

-- what comes behind the entry below p: it is among these; or what comes behind comes behind p
abbrev pub PastEntry : State → Place → Entry → Option (List LocalAction) → Type 0
PastEntry S p e (Some found) = HasBehind S (p ++ e ∷ []) found
PastEntry S p e None = (x : LocalAction) → Offered S x → Before (p ++ e ∷ []) x.place → Before p x.place

-- something is offered at the place or below it
abbrev pub OffersUnder : State → Place → Type 0
OffersUnder S p = (x : LocalAction) × Offered S x × Under p x.place

-- and at this child of it
abbrev pub OffersInChild : State → Place → ℕ → Type 0
OffersInChild S p n = OffersUnder S (p ++ Ordered n ∷ [])

-- each of these is offered in a child of p, of which they are all
abbrev pub AreOfOneChild : State → Place → List LocalAction → Type 0
AreOfOneChild S p found =
    (y : LocalAction) → In y found → Offered S y
    × ((n : ℕ) × Under (p ++ Ordered n ∷ []) y.place
    × ((x : LocalAction) → Offered S x → Under (p ++ Ordered n ∷ []) x.place → In x found))
