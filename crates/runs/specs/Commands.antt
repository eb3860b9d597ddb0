-- What a designer may ask of one execution, and what is answered.
use Rattle.std.specs.Prelude.{ℕ, List}
use Rattle.value.specs.Word.{Word}
use Rattle.runs.specs.declared.event.Choice.{Choice}
use Rattle.runs.specs.declared.event.Event.{Event}
use Rattle.runs.specs.declared.command.Refusal.{Refusal}

-- what may be asked, by tickets and numbers of variables
pub data Command : Type 0 where
  -- take the event with this choice
  Step : Choice → Command
  -- take back the live event of this ticket
  Undo : ℕ → Command
  -- take back the live event of this ticket and all that depend on it
  Roll : ℕ → Command
  -- take back the last live event that wrote this variable, and all that depend on it
  RollValue : ℕ → Command
  -- ask for the last live event that wrote this variable
  Blame : ℕ → Command
  -- ask for the events that may be taken
  Ready : Command
  -- ask for the live events that depend on the one of this ticket
  Consequences : ℕ → Command
  -- ask for the live events
  Live : Command
  -- ask for the value of this variable
  Value : ℕ → Command

-- what is answered
pub data Reply : Type 0 where
  -- the event was taken, under this ticket
  Stepped : ℕ → Event → Reply
  -- the event of this ticket was taken back
  Undone : ℕ → Event → Reply
  -- so many events were taken back
  Rolled : ℕ → Reply
  -- the event of this ticket
  Blamed : ℕ → Reply
  -- the events, in order of acting address, then arm
  Ready : List Event → Reply
  -- the tickets, ascending
  Consequences : List ℕ → Reply
  -- the tickets, ascending, and their events
  Live : List (ℕ × Event) → Reply
  -- the value
  Value : Word → Reply
  -- nothing was done
  Refused : Refusal → Reply
