use Rattle.std.proofs.Common.{◌≡◌, false, take}
use Rattle.syntax.specs.Lists.{Every}
use Rattle.machine.specs.AtMachine.{at_machine}
use Rattle.machine.specs.internal.Choosing.{moves}
use Rattle.machine.proofs.history.History.first_moving.Given as goal

abbrev pub invariant-loop-i : goal.invariant-loop-i
invariant-loop-i l = Every (λ e. moves (at_machine l.system l.self) l.branch l.breaks e ≡ false) (take l.i l.events)
