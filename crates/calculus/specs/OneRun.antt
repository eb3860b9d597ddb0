-- When two lists of events are one run.
use Rattle.std.specs.Prelude.{◌≡◌, ◌↔◌, List}
use Rattle.system.specs.declared.system.System.{System}
use Rattle.sharing_rule.specs.Rule.{is_shared, SharesWell}
use Rattle.runs.specs.Dependence.{Earlier, Causes, Rearranged, Respecting}
use Rattle.runs.specs.Related.{OnOneShared}
use Rattle.runs.specs.Steps.{State, Run, opening}
use Rattle.runs.specs.declared.event.Event.{Event}

-- both lists run, they have the same events, and any two of which one writes a shared variable that the other reads or
-- writes stand in one order in both
pub record OneRun (system : System) (a b : List Event) : Type 0 where
  pub first : (T : State) × Run (opening system) a T
  pub second : (T : State) × Run (opening system) b T
  pub same_events : Rearranged a b
  pub one_order : (e f : Event) → OnOneShared (is_shared system) e f → Earlier a e f ↔ Earlier b e f

-- two lists are one run exactly where the first runs and the second is a respecting order of it; then the first is one
-- of the second as well
abbrev pub OneRunRespects : Type 0
OneRunRespects = (system : System) (a b : List Event) → SharesWell system →
    (OneRun system a b ↔ (((T : State) × Run (opening system) a T) × Respecting a b))
    × (OneRun system a b → Respecting b a)

-- they lead to one state
abbrev pub OneRunEndsOnce : Type 0
OneRunEndsOnce = (system : System) (a b : List Event) (T U : State) → SharesWell system → OneRun system a b →
    Run (opening system) a T → Run (opening system) b U → T ≡ U

-- and the same events depend on each of their events
abbrev pub OneRunDependsAlike : Type 0
OneRunDependsAlike =
    (system : System) (a b : List Event) (e f : Event) → SharesWell system → OneRun system a b →
    Causes a e f ↔ Causes b e f
