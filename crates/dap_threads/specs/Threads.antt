-- The numbers of threads.
use Rattle.std.specs.Prelude.{ℕ, ◌-◌, ◌&&◌, if◌then◌else◌, nat_lt, List, Option, None, Some, codes, option_and_then}
use Rattle.serde_json.specs.Data.{Data}
use Rattle.machine.specs.AtMachine.{AtMachine}
use Rattle.system_places.specs.SystemBranches.{branch_count}
use Rattle.dap_messages.specs.declared.answer.Answer.{Answer}
use Rattle.dap_threads.specs.Given.{AreNumbered, Gives, numbers_to}

-- the branch of the thread of this number, where there are so many: threads count from 1, branches from 0
abbrev pub branch_of : ℕ → ℕ → Option ℕ
branch_of count number = if nat_lt 0 number && nat_lt (number - 1) count then Some (number - 1) else None

-- the branch of the thread that is named, if one is
abbrev pub branch_named : ℕ → Option ℕ → Option ℕ
branch_named count named = option_and_then (branch_of count) named

-- a thread is listed for each branch, whether it is done or not, in order
abbrev pub ListsThreads : AtMachine → Answer → Type 0
ListsThreads m b =
    (items : List Data) × Gives (codes "threads") items b.outcome
    × AreNumbered items (numbers_to (branch_count m.checked))
