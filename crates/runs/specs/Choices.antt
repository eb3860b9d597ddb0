-- What a designer chooses to take a step: where, and which arm.
use Rattle.std.specs.Prelude.{ℕ, Option, Some}
use Rattle.runs.specs.Events.{acting}
use Rattle.runs.specs.declared.event.Choice.{Choice}
use Rattle.runs.specs.declared.event.Event.{Event}
use Rattle.runs.specs.declared.event.Kind.{Kind}
use Rattle.runs.specs.declared.event.Kind.TheVariants.{Open}

-- the arm that an event opens, 0 where it opens none
abbrev pub opened_arm : Kind → Option ℕ → ℕ
opened_arm Open (Some arm) = arm
opened_arm _ arm = 0

-- the choice that takes an event: its acting address, and the arm that it opens
abbrev pub choice_of : Event → Choice
choice_of e = record { place = acting e; arm = opened_arm e.kind e.arm }
