-- States, steps and runs: one event, taken in a state, and lists of events, taken one after another.
use Rattle.std.specs.Prelude.{◌≡◌, List, [], ◌∷◌}
use Rattle.system.specs.Expression.{Store}
use Rattle.system.specs.Residual.{Residual}
use Rattle.runs.specs.Moves.{Local}
use Rattle.runs.specs.Events.{Located, Makes, store_after}
use Rattle.runs.specs.declared.event.Event.{Event}
use Rattle.system.specs.declared.system.System.{System}
use Rattle.system.specs.Translation.{opening_residual, opening_store}

-- a residual, and the values of the variables
pub record State : Type 0 where
  pub residual : Residual
  pub store : Store

-- the residual q comes of r by these moves in turn
abbrev pub Moves : Residual → List Located → Residual → Type 0
Moves r [] q = r ≡ q
Moves r (l ∷ ls) q = (t : Residual) × Local r l.place l.move t × Moves t ls q

-- the event e is allowed in S, and leads to T
pub record Step (S : State) (e : Event) (T : State) : Type 0 where
  pub moves : List Located
  pub makes : Makes S.store moves e
  pub moved : Moves S.residual moves T.residual
  pub stored : T.store ≡ store_after e S.store

-- the event e is allowed in S
abbrev pub Allowed : State → Event → Type 0
Allowed S e = (T : State) × Step S e T

-- the events of h, in their order, lead from S to T
abbrev pub Run : State → List Event → State → Type 0
Run S [] T = S ≡ T
Run S (e ∷ h) T = (U : State) × Step S e U × Run U h T

-- nothing is done yet, and every variable is 0
abbrev pub opening : System → State
opening system = record { residual = opening_residual system; store = opening_store system }
