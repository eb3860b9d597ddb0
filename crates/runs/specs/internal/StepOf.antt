-- Steps and runs as functions.
-- No reader has to believe them: the law `RunAsFunction` says that they are `Step` and `Run` of `Steps.antt`.
use Rattle.std.specs.Prelude.{List, [], ◌∷◌, cond, Option, Some, None}
use Rattle.std.specs.Option.{option_and_then}
use Rattle.runs.specs.Moves.{Place}
use Rattle.system.specs.Residual.{Residual}
use Rattle.runs.specs.Events.{Located, at, store_after}
use Rattle.runs.specs.Steps.{State}
use Rattle.runs.specs.internal.After.{after}
use Rattle.runs.specs.declared.ask.Ask.{Ask}
use Rattle.runs.specs.Asking.{asked}
use Rattle.runs.specs.internal.Made.{event_of}
use Rattle.runs.specs.Tests.{same_event}
use Rattle.runs.specs.declared.event.Event.{Event}

-- the moves that are asked for in turn, and the residual after them
abbrev pub moves_of : Residual → List (Place × Ask) → Option (List Located × Residual)
moves_of r [] = Some ([], r)
moves_of r (k ∷ ks) =
    option_and_then (λ x. option_and_then (λ y. Some (at k.0 x.0 ∷ y.0, y.1)) (moves_of x.1 ks)) (after k.1 r k.0)

-- the state after e with the residual q, where e is the event that was made
abbrev pub agreed : State → Event → Residual → Option Event → Option State
agreed S e q None = None
agreed S e q (Some f) = cond (same_event f e) (Some (record { residual = q; store = store_after e S.store })) None

-- the state after the event e, where e is allowed
abbrev pub step_of : State → Event → Option State
step_of S e =
    option_and_then (λ ks. option_and_then (λ x. agreed S e x.1 (event_of S.store x.0)) (moves_of S.residual ks))
    (asked e)

-- the state after the events of h in their order, where they are allowed in turn
abbrev pub run_of : State → List Event → Option State
run_of S [] = Some S
run_of S (e ∷ h) = option_and_then (λ U. run_of U h) (step_of S e)
