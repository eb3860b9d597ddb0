-- What workers do over a system.
use Rattle.std.specs.Prelude.{◌≡◌, ◌≤◌, ◌*◌, ℕ, List, [], ◌∷◌, length}
use Rattle.atomic_table.specs.Seated.{TableId}
use Rattle.system.specs.declared.system.System.{System}
use Rattle.system_places.specs.SystemBranches.{branch_count}
use Rattle.recorded_calls.specs.History.{calls_by, NoCallsFrom, Replays}
use Rattle.locked_object.specs.Passes.{number, own}
use Rattle.locked_object.specs.Sharing.{NewPasses}
use Rattle.locked_object.specs.declared.pass.Pass.{Pass}
use Rattle.object_workers.specs.Runs.{WorkersRan}
use Rattle.locked_execution.specs.AtDesk.{AtDesk, new_desk}
use Rattle.locked_execution.specs.Sharing.{History, Keeps, is_step}
use Rattle.locked_execution.specs.declared.command.Command.{Command}
use Rattle.locked_execution.specs.declared.command.Reply.{Reply}

-- an execution of the system before its first call, without breakpoints
abbrev pub unstepped : System → AtDesk
unstepped system = new_desk (record { checked = system; live = []; next = 1; marked = [] })

-- so many workers took so many turns each, of which so many were steps: each had a new pass of one shared execution of
-- the system, and these are the passes afterwards
pub record CountsSteps (system : System) (workers turns stepped : ℕ)
    (after : List (Pass AtDesk Command Reply)) : Type 0 where
  -- where the calls of the execution are counted
  pub table : TableId
  pub before : List (Pass AtDesk Command Reply)
  pub lost : ℕ
  pub new : NewPasses table (unstepped system) workers before
  -- the steps are those among the calls that the passes have made
  pub ran : WorkersRan table (unstepped system) Command.Branch (branch_count system) turns is_step before after stepped
      lost
  -- no more than there were turns
  pub few : stepped ≤ workers * turns

-- the history has under the number of each pass just the calls that the pass has made, in their order
abbrev pub HasAllOf : History → List (Pass AtDesk Command Reply) → Type 0
HasAllOf log [] = Unit {0}
HasAllOf log (p ∷ ps) = (calls_by (number p) log ≡ own p) × HasAllOf log ps

-- so many events are live on the desk that is left: it is what the opening is after a history with all calls of these
-- passes, and with no others. The passes are numbered from 0
pub record CountsLive (opening : AtDesk) (passes : List (Pass AtDesk Command Reply)) (live : ℕ) : Type 0 where
  pub log : History
  pub left : AtDesk
  pub replays : Replays Keeps opening log left
  pub all : HasAllOf log passes
  pub no_others : NoCallsFrom (length passes) log
  pub counts : live ≡ length left.machine.live

-- both, of the same passes
pub record Worked (system : System) (workers turns stepped live : ℕ) : Type 0 where
  pub passes : List (Pass AtDesk Command Reply)
  pub steps : CountsSteps system workers turns stepped passes
  pub lives : CountsLive (unstepped system) passes live

-- workers take nothing back, and nobody else made a call: each event that is live is that of one turn that was a step
abbrev pub LiveAreStepped : Type 0
LiveAreStepped =
    (system : System) (workers turns stepped live : ℕ) → Worked system workers turns stepped live → live ≡ stepped
