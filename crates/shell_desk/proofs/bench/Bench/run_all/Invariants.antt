use Rattle.std.proofs.Common.{◌-◌}
use Rattle.shell_desk.specs.AtBench.{AtBench}
use Rattle.shell_desk.specs.Does.{Runs}
use Rattle.shell_desk.specs.declared.deed.End.{End}
use Rattle.shell_desk.proofs.bench.Bench.run_all.Given as goal

-- however the steps that are left go, so does the whole run
abbrev pub invariant-loop-taken : goal.invariant-loop-taken
invariant-loop-taken g l = (end : End) (b' : AtBench) → Runs l.self (l.limit - l.taken) end b' → Runs l.initial.self l.limit end b'
