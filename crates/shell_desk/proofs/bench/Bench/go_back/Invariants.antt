use Rattle.std.proofs.Common.{◌-◌, Option}
use Rattle.locked_execution.specs.declared.command.Reply.{Reply}
use Rattle.shell_desk.specs.AtBench.{AtBench}
use Rattle.shell_desk.specs.Does.{GoesBack}
use Rattle.shell_desk.proofs.bench.Bench.go_back.Given as goal

-- however the steps that are left are taken back, so are all
abbrev pub invariant-loop-taken : goal.invariant-loop-taken
invariant-loop-taken g l =
    (told : Option Reply) (b' : AtBench) → GoesBack l.self (l.count - l.taken) told b' → GoesBack l.initial.self l.count told b'
