-- The first step of a place, as the code takes it apart; and whether an ask is a test that takes no arm.
-- No reader has to believe it: `proofs/public/Steps.antt` ties it to the answers by places of `ByPlace.antt`.
use Rattle.std.specs.Prelude.{ℕ, [], ◌∷◌, Bool, true, false, Option, Some, None}
use Rattle.address.specs.declared.Entry.TheVariants.{Ordered, Branch}
use Rattle.runs.specs.Moves.{Place}
use Rattle.runs.specs.declared.ask.Ask.{Ask}
use Rattle.runs.specs.declared.ask.Ask.TheVariants as ask

-- a number in a sequence, and the place below it
abbrev pub ordered_step : Place → Option (ℕ × Place)
ordered_step [] = None
ordered_step (Ordered i ∷ a) = Some (i, a)
ordered_step (Branch i ∷ a) = None

-- a branch of a parallel, and the place below it
abbrev pub branch_step : Place → Option (ℕ × Place)
branch_step [] = None
branch_step (Ordered i ∷ a) = None
branch_step (Branch i ∷ a) = Some (i, a)

-- whether a test is asked for that takes no arm
abbrev pub takes_none : Ask → Bool
takes_none (ask.Test None) = true
takes_none _ = false
