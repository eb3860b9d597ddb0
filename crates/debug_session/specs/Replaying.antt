-- What is answered to a trace that is loaded.
use Rattle.std.specs.Prelude.{◌≡◌, ◌≢◌, ℕ, List}
use Rattle.system.specs.declared.system.System.{System}
use Rattle.runs.specs.declared.event.Event.{Event}
use Rattle.locked_execution.specs.declared.command.Command.{Command}
use Rattle.locked_execution.specs.declared.command.Reply.{Reply}
use Rattle.trace_file.specs.TraceText.{StandsFor}
use Rattle.trace_file.specs.Loading as trace
use Rattle.trace_file.specs.declared.fault.Fault.TheVariants as not_loaded
use Rattle.debug_session.specs.ReplyText.{answer_text}
use Rattle.debug_session.specs.declared.fault.Fault.{Fault}

-- the text stands for events, and the answer is that of the line `live` where these are live under the tickets
-- from 1 on
abbrev pub Replays : System → List ℕ → List ℕ → Type 0
Replays system text answer =
    (h : List Event) × StandsFor system text h
    × (answer ≡ answer_text system Command.Live (Reply.Live (trace.ticketed 1 h)))

-- the text is refused for this reason; want of memory is `Memory`
abbrev pub RefusesTrace : System → List ℕ → Fault → Type 0
RefusesTrace system text Fault.Memory = Unit {0}
RefusesTrace system text (Fault.Trace fault) = (fault ≢ not_loaded.Memory) × trace.IsRefused system text fault
RefusesTrace system text _ = ⊥
