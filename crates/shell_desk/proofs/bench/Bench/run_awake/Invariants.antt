use Rattle.std.proofs.Common.{◌-◌}
use Rattle.shell_desk.specs.AtBench.{AtBench}
use Rattle.shell_desk.specs.Does.{Runs}
use Rattle.shell_desk.specs.declared.deed.End.{End}
use Rattle.shell_desk.specs.internal.Sleeping.{Resting}
use Rattle.shell_desk.proofs.bench.Bench.run_awake.Given as goal

-- who sleeps has no step; and however the steps that are left go, so does the whole run
abbrev pub invariant-loop-taken : goal.invariant-loop-taken
invariant-loop-taken g l =
    Resting l.ends l.self l.sleepers.asleep
    × ((end : End) (b' : AtBench) → Runs l.self (l.limit - l.taken) end b' → Runs l.initial.self l.limit end b')
