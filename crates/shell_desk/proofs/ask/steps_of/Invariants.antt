use Rattle.std.proofs.Common.{◌≡◌, map, take}
use Rattle.shell_desk.specs.Does.{step_of}
use Rattle.shell_desk.proofs.ask.steps_of.Given as goal

abbrev pub invariant-loop-event : goal.invariant-loop-event
invariant-loop-event l = l.steps.items ≡ map step_of (take l.event-index l.events)
