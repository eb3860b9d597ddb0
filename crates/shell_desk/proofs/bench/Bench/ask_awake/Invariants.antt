use Rattle.std.proofs.Common.{ℕ, ◌-◌, ◌≤◌, List, Option}
use Rattle.locked_execution.specs.declared.command.Reply.{Reply}
use Rattle.shell_desk.specs.AtBench.{AtBench}
use Rattle.shell_desk.specs.internal.Sleeping.{AsksBetween}
use Rattle.shell_desk.proofs.bench.Bench.ask_awake.Given as goal

-- however those that are left answer, so do all
abbrev pub invariant-loop-next : goal.invariant-loop-next
invariant-loop-next g l =
    (l.branch ≤ l.to)
    × ((told : Option Reply) (b' : AtBench) (asleep' : List ℕ)
    → AsksBetween l.ends l.branch l.to l.self l.sleepers.asleep told b' asleep'
    → AsksBetween l.ends l.from l.to l.initial.self l.initial.sleepers.asleep told b' asleep')

abbrev pub decreases-loop-next : goal.decreases-loop-next
decreases-loop-next g l = l.to - l.branch
