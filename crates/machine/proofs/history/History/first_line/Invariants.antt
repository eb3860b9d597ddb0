use Rattle.std.proofs.Common.{◌≡◌, drop}
use Rattle.machine.specs.AtMachine.{at_machine}
use Rattle.machine.specs.Branching.{in_branch}
use Rattle.machine.specs.internal.Choosing.{line_of_first}
use Rattle.machine.proofs.history.History.first_line.Given as goal

abbrev pub invariant-loop-event : goal.invariant-loop-event
invariant-loop-event l =
    line_of_first (at_machine l.system l.self) (in_branch (at_machine l.system l.self) l.branch (drop l.event-index l.events))
    ≡ line_of_first (at_machine l.system l.self) (in_branch (at_machine l.system l.self) l.branch l.events)
