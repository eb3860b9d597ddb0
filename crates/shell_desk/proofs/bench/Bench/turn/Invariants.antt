use Rattle.std.proofs.Common.{◌-◌}
use Rattle.locked_execution.specs.declared.command.Reply.{Reply}
use Rattle.shell_desk.specs.AtBench.{AtBench}
use Rattle.shell_desk.specs.Does.{InTurn, OneTurn}
use Rattle.shell_desk.proofs.bench.Bench.turn.Given as goal

-- however the branches that are left answer, so does the whole turn
abbrev pub invariant-loop-passed : goal.invariant-loop-passed
invariant-loop-passed g l =
    (reply : Reply) (b' : AtBench) → InTurn l.count l.self (l.count - l.passed) l.branch reply b' → OneTurn l.initial.self reply b'
