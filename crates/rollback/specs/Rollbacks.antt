-- What a rollback takes back and what it leaves.
use Rattle.std.specs.Prelude.{◌≡◌, ◌↔◌, ℕ, ◌+◌, ◌<◌, List, ◌∷◌, ◌++◌, length, Some}
use Rattle.syntax.specs.Lists.{In}
use Rattle.system.specs.Expression.{get}
use Rattle.runs.specs.Dependence.{Causes}
use Rattle.runs.specs.InOrder.{InOrder}
use Rattle.runs.specs.Live.{Live, events, LiveAt, NoWriter}
use Rattle.runs.specs.Object.{Object, Reaches}
use Rattle.runs.specs.Steps.{State, Run}
use Rattle.runs.specs.declared.event.Event.{Event}

-- from o to o' the event of ticket t and the live events that depend on it, n in number, are gone; exactly the others
-- are live under their tickets, and they run. No ticket is given back
abbrev pub TakesBack : Object → ℕ → ℕ → Object → Type 0
TakesBack o t n o' =
    (e : Event) × LiveAt o.live t e
    × ((u : ℕ) (f : Event) → LiveAt o'.live u f ↔ (LiveAt o.live u f × (Causes (events o.live) e f → ⊥)))
    × (n + length o'.live ≡ length o.live) × ((T : State) × Reaches o' T) × (o'.next ≡ o.next)

-- in o' the variable x has the value that it had just before its last live writer in o
abbrev pub ValueFromBefore : Object → ℕ → Object → Type 0
ValueFromBefore o x o' =
    (before : Live) × (t : ℕ) × (e : Event) × (after : Live) × (o.live ≡ before ++ (t, e) ∷ after)
    × (e.written ≡ Some x) × NoWriter after x
    × ((S T : State) → Run o.opening (events before) S → Reaches o' T → get T.store x ≡ get S.store x)

-- exactly the tickets of the live events that depend on the one of ticket t, which is among them, ascending
abbrev pub AreDependents : Object → ℕ → List ℕ → Type 0
AreDependents o t tickets =
    (e : Event) × LiveAt o.live t e × InOrder ◌<◌ tickets
    × ((u : ℕ) → In u tickets ↔ ((f : Event) × LiveAt o.live u f × Causes (events o.live) e f))
