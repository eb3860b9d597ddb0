-- The lines on which a command stands that can be an action of an event.
use Rattle.std.specs.Prelude.{ℕ, ◌==◌, ◌||◌, ◌≡◌, ◌≤◌, ◌<◌, Bool, true, false, Option, None, Some}
use Rattle.system.specs.declared.command.Command.{Command}
use Rattle.system.specs.declared.command.Action.TheOpen.{Action-F, Arm-F, Command-F, Guarded-F, Labelled-F}
use Rattle.system.specs.declared.command.Action.TheFolds.{fold-Command}
use Rattle.system_places.specs.LinesBegun.{any_onto, last_of}

-- whether a command does, or one within it, a line a form; `here` says that it has the line. A command that goes on,
-- one that halts, a sequence and a parallel are no action of an event
abbrev pub stop_layer : Action-F (Bool → Bool) Bool Bool Bool Bool → Bool → Bool
stop_layer Action-F.Continue here = false
stop_layer Action-F.Halt here = false
stop_layer (Action-F.Assign x w e) here = here
stop_layer (Action-F.Send c w e) here = here
stop_layer (Action-F.Receive c x) here = here
stop_layer (Action-F.Sync c) here = here
stop_layer (Action-F.Loop body) here = here || body
stop_layer (Action-F.While e body) here = here || body
stop_layer (Action-F.If arms last) here = here || (any_onto false arms || last_of last)
stop_layer (Action-F.Case e arms last) here = here || (any_onto false arms || last_of last)
stop_layer (Action-F.Input c body) here = here || body
stop_layer (Action-F.Select arms) here = here || any_onto false arms
stop_layer (Action-F.Arbitrate arms) here = here || any_onto false arms
stop_layer (Action-F.Sequence children) here = any_onto false children
stop_layer (Action-F.Parallel children) here = any_onto false children

abbrev pub stop_arm : Arm-F (Bool → Bool) Bool Bool Bool Bool → Bool
stop_arm a = a.body

abbrev pub stop_command : ℕ → Command-F (Bool → Bool) Bool Bool Bool Bool → Bool
stop_command line c = c.action (c.line == line)

abbrev pub stop_guarded : Guarded-F (Bool → Bool) Bool Bool Bool Bool → Bool
stop_guarded a = a.body

abbrev pub stop_labelled : Labelled-F (Bool → Bool) Bool Bool Bool Bool → Bool
stop_labelled a = a.body

-- whether a command that has the line, or one within it, can be an action of an event
abbrev pub stops : ℕ → Command → Bool
stops line =
    fold-Command (Bool → Bool) Bool Bool Bool Bool stop_layer stop_arm (stop_command line) stop_guarded stop_labelled

-- no line from `low` on and before `high` stops
abbrev pub NoneStops : Command → ℕ → ℕ → Type 0
NoneStops c low high = (line : ℕ) → low ≤ line → line < high → stops line c ≡ false

-- the first line that stops, of those from `from` on and before `below`
abbrev pub FirstStop : Command → ℕ → ℕ → Option ℕ → Type 0
FirstStop c from below None = NoneStops c from below
FirstStop c from below (Some line) = (from ≤ line) × (line < below) × (stops line c ≡ true) × NoneStops c from line
