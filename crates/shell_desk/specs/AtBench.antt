-- Where a shell stands.
use Rattle.std.specs.Prelude.{ℕ, List, [], Option, None}
use Rattle.machine.specs.AtMachine.{AtMachine}
use Rattle.locked_execution.specs.AtDesk.{AtDesk, new_desk}
use Rattle.locked_execution.specs.declared.command.Command.{Command}

-- the desk, the session whose lines come, the commands of the steps that were numbered last, the branch that acted last,
-- behind which a run goes on, the branch that was stepped last, and the line of the breakpoint at which a run of this
-- session ended, where no step was taken or taken back since, and no lines of another session came
pub record AtBench : Type 0 where
  pub desk : AtDesk
  pub session : ℕ
  pub numbered : List Command
  pub turn : Option ℕ
  pub branch : Option ℕ
  pub stopped : Option ℕ

-- at first
abbrev pub new_bench : AtMachine → AtBench
new_bench machine =
    record { desk = new_desk machine; session = 0; numbered = []; turn = None; branch = None; stopped = None }
