-- What holds of an object at every moment.
use Rattle.std.specs.Prelude.{◌≡◌, suc, ◌≤◌, length}
use Rattle.system.specs.declared.system.System.{System}
use Rattle.runs.specs.Steps.{State, opening}
use Rattle.runs.specs.Live.{Rising}
use Rattle.runs.specs.Object.{Object, Reaches, most_live, last_ticket}

-- S is the opening state of a system
abbrev pub Opens : State → Type 0
Opens S = (system : System) × (S ≡ opening system)

-- it began in the opening state of a system, the live events run from there, their tickets rise from 1 to below the
-- next, and the limits are kept
pub record Sound (o : Object) : Type 0 where
  pub opens : Opens o.opening
  pub runs : (T : State) × Reaches o T
  pub rising : Rising 1 o.live o.next
  pub room : length o.live ≤ most_live
  pub unspent : o.next ≤ suc last_ticket
