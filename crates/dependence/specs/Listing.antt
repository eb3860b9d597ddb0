-- The live events, one after another.
use Rattle.std.specs.Prelude.{ℕ, Option}
use Rattle.std.specs.Iterator.{YieldsFirstBy}
use Rattle.runs.specs.Live.{Live}
use Rattle.runs.specs.declared.event.Event.{Event}
use denote.Ref.{Bor}

-- the ticket and the event of an item
abbrev pub shown : ℕ × Bor Event → ℕ × Event
shown item = (item.0, item.1.now)

-- a call gave the first of those that were left and left the others, or nothing where none was left
abbrev pub GivesFirst : Live → Option (ℕ × Bor Event) → Live → Type 0
GivesFirst = YieldsFirstBy shown (λ rest. rest)
