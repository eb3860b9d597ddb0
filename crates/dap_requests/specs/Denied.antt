-- Why a request to move is refused.
use Rattle.std.specs.Prelude.{◌≡◌, ℕ, true, is_some, Option, None, Some, codes}
use Rattle.serde_json.specs.Data.{Data}
use Rattle.serde_json.specs.View.{view}
use Rattle.system_places.specs.SystemBranches.{branch_count}
use Rattle.locked_execution.specs.AtDesk.{AtDesk}
use Rattle.dap_messages.specs.Arguments.{number_named, part_named}
use Rattle.dap_messages.specs.declared.kind.Kind.{Kind}
use Rattle.dap_messages.specs.declared.request.Request.{Request}
use Rattle.dap_threads.specs.Threads.{branch_named}

-- there is something, and it is no number from 1 on
abbrev pub IsNoTarget : Option Data → Option ℕ → Type 0
IsNoTarget part None = is_some part ≡ true
IsNoTarget part (Some number) = number ≡ 0

-- `stepIn` names a step, but by no number from 1 on
abbrev pub NamesNoStep : Request → Type 0
NamesNoStep request =
    (request.kind ≡ Kind.StepIn)
    × IsNoTarget (part_named (codes "targetId") (view request.arguments))
    (number_named (codes "targetId") (view request.arguments))

-- no thread is named, or none that there is
abbrev pub NamesNoThread : AtDesk → Request → Type 0
NamesNoThread d request =
    branch_named (branch_count d.machine.checked) (number_named (codes "threadId") (view request.arguments)) ≡ None
