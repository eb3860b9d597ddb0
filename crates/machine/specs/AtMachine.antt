-- What a machine holds, and the execution that it stands for.
use Rattle.std.specs.Prelude.{ℕ, List}
use Rattle.sharing_check.specs.declared.checked.Checked.{Checked}
use Rattle.runs.specs.Steps.{opening}
use Rattle.runs.specs.Live.{Live}
use Rattle.runs.specs.Object.{Object}
use Rattle.machine.specs.declared.history.History.{History}

-- a system, its live events, the ticket of the next step, and the tickets of the live events that are marked, ascending
pub record AtMachine : Type 0 where
  pub checked : Checked
  pub live : Live
  pub next : ℕ
  pub marked : List ℕ

-- the execution, which has no marks: it began as the system opens
abbrev pub object : AtMachine → Object
object h = record { opening = opening h.checked; live = h.live; next = h.next }

-- what a machine shows: its system, the live events and their marks
abbrev pub at_machine : Checked → History → AtMachine
at_machine checked h = record { checked = checked; live = h.live.live; next = h.next; marked = h.live.marked }
