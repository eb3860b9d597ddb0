-- The laws that tie what the code walks through to the definitions.
-- No reader has to believe it: `proofs/public/FromOpening.antt` ties `allowed_events` to `Allowed`, and `run_of` to
-- `Run`, both of `Steps.antt`, by proving them.
use Rattle.std.specs.Prelude.{◌≡◌, ◌↔◌, List, Some}
use Rattle.runs.specs.internal.StepOf.{run_of}
use Rattle.runs.specs.internal.AllowedEvents.{allowed_events}
use Rattle.syntax.specs.Lists.{In}
use Rattle.system.specs.declared.system.System.{System}
use Rattle.runs.specs.Steps.{opening, Run, State, Allowed}
use Rattle.runs.specs.WellFormed.{WellFormed}
use Rattle.runs.specs.declared.event.Event.{Event}

-- an event is allowed in a state of a run exactly where it is in the list of allowed events
abbrev pub AllowedAreListed : Type 0
AllowedAreListed =
    (system : System) (h : List Event) (S : State) (e : Event) → Run (opening system) h S →
    Allowed S e ↔ In e (allowed_events S)

-- and so in every state whose residual is well formed
abbrev pub AllowedWhereFormed : Type 0
AllowedWhereFormed =
    (S : State) (e : Event) → WellFormed S.residual → Allowed S e ↔ In e (allowed_events S)

-- the run as a function, by which `replay` is proved, is the run
abbrev pub RunAsFunction : Type 0
RunAsFunction =
    (system : System) (h : List Event) (T : State) → (run_of (opening system) h ≡ Some T) ↔ Run (opening system) h T
