-- What requests ask for.
use Rattle.std.specs.Prelude.{ℕ, List, [], ◌∷◌, bytes_eq, codes, if◌then◌else◌}
use Rattle.dap_messages.specs.declared.kind.Kind.{Kind}

-- the requests, by the words of the protocol
abbrev pub words : List (List ℕ × Kind)
words =
    (codes "initialize", Kind.Initialize)
    ∷ (codes "launch", Kind.Launch)
    ∷ (codes "attach", Kind.Attach)
    ∷ (codes "configurationDone", Kind.ConfigurationDone)
    ∷ (codes "restart", Kind.Restart)
    ∷ (codes "terminate", Kind.Terminate)
    ∷ (codes "disconnect", Kind.Disconnect)
    ∷ (codes "threads", Kind.Threads)
    ∷ (codes "stackTrace", Kind.StackTrace)
    ∷ (codes "scopes", Kind.Scopes)
    ∷ (codes "variables", Kind.Variables)
    ∷ (codes "evaluate", Kind.Evaluate)
    ∷ (codes "completions", Kind.Completions)
    ∷ (codes "setBreakpoints", Kind.SetBreakpoints)
    ∷ (codes "breakpointLocations", Kind.BreakpointLocations)
    ∷ (codes "setExceptionBreakpoints", Kind.SetExceptionBreakpoints)
    ∷ (codes "exceptionInfo", Kind.ExceptionInfo)
    ∷ (codes "dataBreakpointInfo", Kind.DataBreakpointInfo)
    ∷ (codes "setDataBreakpoints", Kind.SetDataBreakpoints)
    ∷ (codes "next", Kind.Next)
    ∷ (codes "stepIn", Kind.StepIn)
    ∷ (codes "stepOut", Kind.StepOut)
    ∷ (codes "stepInTargets", Kind.StepInTargets)
    ∷ (codes "continue", Kind.Continue)
    ∷ (codes "pause", Kind.Pause)
    ∷ (codes "stepBack", Kind.StepBack)
    ∷ (codes "reverseContinue", Kind.ReverseContinue)
    ∷ []

-- what the request of this name asks for, by these words
abbrev pub kind_by : List (List ℕ × Kind) → List ℕ → Kind
kind_by [] name = Kind.Other
kind_by (entry ∷ entries) name = if bytes_eq name entry.0 then entry.1 else kind_by entries name

-- what the request of this name asks for
abbrev pub kind_named : List ℕ → Kind
kind_named name = kind_by words name
