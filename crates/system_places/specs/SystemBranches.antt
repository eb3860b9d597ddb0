-- The branches of a system: the children of its body where that is a parallel, else the body as one, and behind them
-- the environment's side of each port, in order.
use Rattle.std.specs.Prelude.{ℕ, ◌+◌, ◌-◌, min, ◌==◌, nat_lt, nat_le, if◌then◌else◌, List, [], ◌∷◌, Option, None, Some, length}
use Rattle.address.specs.declared.Entry.{Entry}
use Rattle.address.specs.declared.Entry.TheVariants.{Ordered, Branch}
use Rattle.system.specs.declared.command.Action.{Action, out-Action}
use Rattle.system.specs.declared.command.Action.TheOpen.{Action-F}
use Rattle.system.specs.declared.command.Arm.{Arm}
use Rattle.system.specs.declared.command.Command.{Command, out-Command}
use Rattle.system.specs.declared.command.Guarded.{Guarded}
use Rattle.system.specs.declared.command.Labelled.{Labelled}
use Rattle.system.specs.declared.system.System.{System}
use Rattle.system.specs.Named.{as_number}

-- the children of a parallel; no other command has any here
abbrev pub children_of_parallel : Action-F Action Arm Command Guarded Labelled → Option (List Command)
children_of_parallel (Action-F.Parallel children) = Some children
children_of_parallel _ = None

-- the children of a command that is a parallel
abbrev pub parallel_of : Command → Option (List Command)
parallel_of c = children_of_parallel (out-Action (out-Command c).action)

-- how many branches the children are, 1 where there is no parallel
abbrev pub count_of : Option (List Command) → ℕ
count_of None = 1
count_of (Some children) = length children

-- how many branches a command is
abbrev pub branches_of : Command → ℕ
branches_of c = count_of (parallel_of c)

-- how many branches a system has, 4294967295 where they are more
abbrev pub branch_count : System → ℕ
branch_count system = min (branches_of system.main + length system.environment) 4294967295

-- the number of the child of a parallel, where there is one of this number
abbrev pub child_number : List Command → List Entry → Option ℕ
child_number children [] = None
child_number children (Ordered n ∷ rest) = None
child_number children (Branch n ∷ rest) = if nat_lt n (length children) then Some n else None

-- the branch of a place within the body, all of which is branch 0 where it is no parallel
abbrev pub branch_within : Option (List Command) → List Entry → Option ℕ
branch_within None way = Some 0
branch_within (Some children) way = child_number children way

-- the branch of the n-th port, counted from 1, where there are so many
abbrev pub branch_of_port : System → ℕ → Option ℕ
branch_of_port system n =
    if nat_le n (length system.environment) then as_number (branches_of system.main + (n - 1)) else None

-- the number of the branch in which a place lies, where it lies in one, and the number has 32 bits
abbrev pub branch_at : System → List Entry → Option ℕ
branch_at system [] = None
branch_at system (Ordered n ∷ rest) = None
branch_at system (Branch n ∷ rest) =
    if n == 0 then branch_within (parallel_of system.main) rest else branch_of_port system n
