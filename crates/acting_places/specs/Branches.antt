-- In which branch the events of a run act.
use Rattle.std.specs.Prelude.{◌≡◌, ℕ, ◌+◌, ◌<◌, ◌≤◌, List, Some, length}
use Rattle.elaborate.specs.Elaboration.{system_of, IsAccepted}
use Rattle.elaborate.specs.declared.stimulus.Entry.{Entry}
use Rattle.syntax.specs.Lists.{In}
use Rattle.system.specs.declared.system.System.{System}
use Rattle.system_places.specs.SystemBranches.{branches_of, branch_at}
use Rattle.runs.specs.Events.{acting}
use Rattle.runs.specs.Steps.{State, Run, opening}
use Rattle.runs.specs.declared.event.Event.{Event}
use Rattle.types.specs.declared.tree.Procedure.{Procedure}

-- how many branches a system has
abbrev pub all_branches : System → ℕ
all_branches system = branches_of system.main + length system.environment

-- their numbers have 32 bits
abbrev pub HasFewBranches : System → Type 0
HasFewBranches system = all_branches system ≤ 4294967295

-- the acting place of the event lies in a branch, and that is one of those that there are
abbrev pub LiesInBranch : System → Event → Type 0
LiesInBranch system e = (k : ℕ) × (branch_at system (acting e) ≡ Some k) × (k < all_branches system)

-- so does that of each event of a run
abbrev pub EventsLieInBranches : Type 0
EventsLieInBranches =
    (system : System) (h : List Event) (T : State) (e : Event) → HasFewBranches system → Run (opening system) h T →
    In e h → LiesInBranch system e

-- whatever procedures and stimulus are elaborated: where they are accepted, their system has few branches
abbrev pub AcceptedHaveFewBranches : Type 0
AcceptedHaveFewBranches =
    (ps : List Procedure) (entries : List Entry) → IsAccepted ps entries → HasFewBranches (system_of ps entries)

-- so each event of a run of an accepted system lies in a branch, and nothing is asked of how many there are
abbrev pub EventsOfAcceptedLieInBranches : Type 0
EventsOfAcceptedLieInBranches =
    (ps : List Procedure) (entries : List Entry) (h : List Event) (T : State) (e : Event) → IsAccepted ps entries →
    Run (opening (system_of ps entries)) h T → In e h → LiesInBranch (system_of ps entries) e
