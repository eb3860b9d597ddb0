-- What a look at a branch tells.
use Rattle.std.specs.Prelude.{◌≡◌, ℕ}
use Rattle.system.specs.declared.system.System.{System}
use Rattle.runs.specs.Steps.{State}
use Rattle.local_actions.specs.declared.action.ActionKind.{ActionKind}
use Rattle.idle_branches.specs.Idle.{IdleIn, given_on}
use Rattle.idle_branches.specs.declared.glance.Glance.{Glance}

-- where it tells that branch k rests, it has no step
abbrev pub Tells : Glance → System → State → ℕ → Type 0
Tells (Glance.Rests told) system S k = IdleIn system S k
Tells (Glance.Acts told) system S k = Unit {0}
Tells Glance.Unknown system S k = Unit {0}

-- an action of the branch is at the other side of the channel that is told, or of none where none is
abbrev pub IsFaced : Glance → ActionKind → Type 0
IsFaced (Glance.Rests told) action = given_on action ≡ told
IsFaced (Glance.Acts told) action = given_on action ≡ told
IsFaced Glance.Unknown action = Unit {0}
