-- The laws of the canonical order, for lists that run in any system from its opening state.
use Rattle.std.specs.Prelude.{◌≡◌, List}
use Rattle.system.specs.declared.system.System.{System}
use Rattle.runs.specs.Dependence.{Respecting}
use Rattle.runs.specs.Steps.{State, Run, opening}
use Rattle.runs.specs.declared.event.Event.{Event}
use Rattle.trace_file.specs.Canonical.{IsCanonicalOrder}

-- the canonical order of a list is a respecting order of it
abbrev pub CanonicalRespects : Type 0
CanonicalRespects = (h g : List Event) → IsCanonicalOrder h g → Respecting h g

-- and so it runs to the same state
abbrev pub CanonicalRuns : Type 0
CanonicalRuns =
    (system : System) (h g : List Event) (T : State) → Run (opening system) h T → IsCanonicalOrder h g →
    Run (opening system) g T

-- two lists that are respecting orders of each other, of which one runs, have one canonical order
abbrev pub OrdersAgree : Type 0
OrdersAgree =
    (system : System) (h k a b : List Event) (T : State) → Run (opening system) h T → Respecting h k → Respecting k h →
    IsCanonicalOrder h a → IsCanonicalOrder k b → a ≡ b

-- a list that runs has no two canonical orders
abbrev pub OneCanonicalOrder : Type 0
OneCanonicalOrder =
    (system : System) (h a b : List Event) (T : State) → Run (opening system) h T → IsCanonicalOrder h a →
    IsCanonicalOrder h b → a ≡ b

-- a list that runs has a canonical order
abbrev pub SomeCanonicalOrder : Type 0
SomeCanonicalOrder =
    (system : System) (h : List Event) (T : State) → Run (opening system) h T → (g : List Event) × IsCanonicalOrder h g

-- the canonical order of a list that runs is its own canonical order
abbrev pub IsItsOwnOrder : Type 0
IsItsOwnOrder =
    (system : System) (h g : List Event) (T : State) → Run (opening system) h T → IsCanonicalOrder h g →
    IsCanonicalOrder g g
