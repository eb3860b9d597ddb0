-- What a desk holds: an execution, and the breakpoints of sixteen sessions.
use Rattle.std.specs.Prelude.{◌≡◌, ℕ, ◌<◌, ◌≤◌, List, [], length, replicate, slice_index_or, slice_set}
use Rattle.syntax.specs.Lists.{Every}
use Rattle.runs.specs.InOrder.{InOrder}
use Rattle.runs.specs.Object.{Object}
use Rattle.machine.specs.Breakpoints.{most_breaks}
use Rattle.machine.specs.AtMachine.{AtMachine, object}

pub record AtDesk : Type 0 where
  pub machine : AtMachine
  -- the lines with a breakpoint of session k stand at place k
  pub breaks : List (List ℕ)

-- lines with a breakpoint: ascending, and no more than there may be
abbrev pub AreFew : List ℕ → Type 0
AreFew lines = InOrder ◌<◌ lines × (length lines ≤ most_breaks)

-- how many sessions there are
abbrev pub sessions : ℕ
sessions = 16

-- the breakpoints of so many sessions
pub record OfSessions (breaks : List (List ℕ)) : Type 0 where
  pub count : length breaks ≡ sessions
  pub few : Every AreFew breaks

-- before its first command
abbrev pub new_desk : AtMachine → AtDesk
new_desk h = record { machine = h; breaks = replicate sessions [] }

-- the execution
abbrev pub execution : AtDesk → Object
execution d = object d.machine

-- the lines with a breakpoint of the session
abbrev pub breaks_of : AtDesk → ℕ → List ℕ
breaks_of d session = slice_index_or d.breaks session []

-- d, where these are the lines with a breakpoint of the session
abbrev pub with_breaks : AtDesk → ℕ → List ℕ → AtDesk
with_breaks d session lines = record { machine = d.machine; breaks = slice_set d.breaks session lines }
