-- Whether a run goes on, is done or is stuck. (Own. A run is done where nothing of the body is left. At an output port
-- the environment takes what comes for ever, and at an input port it keeps what nobody takes: neither keeps a run from
-- being done. A body that has come to `halt`, which never ends, does.)
use Rattle.std.specs.Prelude.{◌≡◌, ◌==◌, ◌||◌, zero, suc, Bool, true, false, not, [], ◌∷◌, None}
use Rattle.address.specs.declared.Entry.TheVariants.{Ordered, Branch}
use Rattle.system.specs.Residual.{Residual, done, beside}
use Rattle.runs.specs.Moves.{Place}
use Rattle.runs.specs.Steps.{State, Allowed}
use Rattle.runs.specs.declared.event.Event.{Event}
use Rattle.local_actions.specs.declared.action.LocalAction.{LocalAction}
use Rattle.local_actions.specs.declared.action.ActionKind.{ActionKind}
use Rattle.local_actions.specs.declared.action.ActionKind.TheVariants.{Receives, Releases}
use Rattle.waiting.specs.declared.progress.Progress.{Progress}
use Rattle.waiting.specs.declared.progress.Progress.TheVariants.{GoesOn, Done, Stuck}

-- whether an action is the environment's at an output port: it alone receives into no variable
abbrev pub is_outlet : ActionKind → Bool
is_outlet (Receives c None) = true
is_outlet _ = false

-- whether it is that of a sender whose partner has opened, and not yet closed
abbrev pub is_held : ActionKind → Bool
is_held (Releases c) = true
is_held _ = false

-- whether a place lies in the body, which is branch 0 of the whole; beside it stands the environment, a branch a port
abbrev pub is_in_body : Place → Bool
is_in_body [] = false
is_in_body (Ordered n ∷ rest) = false
is_in_body (Branch n ∷ rest) = n == 0

-- whether the environment offers an action, and the body does not hold it
abbrev pub is_idle : LocalAction → Bool
is_idle x = not (is_in_body x.place || is_held x.action)

-- whether nothing of the body is left, which is branch 0 of the whole: then another branch comes first, or none is left
abbrev pub body_is_over : Residual → Bool
body_is_over done = true
body_is_over (beside zero child rest) = false
body_is_over (beside (suc k) child rest) = true
body_is_over _ = false

-- no event is allowed
abbrev pub NoneAllowed : State → Type 0
NoneAllowed S = (e : Event) → Allowed S e → ⊥

-- how a state stands, a line for each
abbrev pub StandsLike : State → Progress → Type 0
StandsLike S GoesOn = (e : Event) × Allowed S e
StandsLike S Done = NoneAllowed S × (body_is_over S.residual ≡ true)
StandsLike S Stuck = NoneAllowed S × (body_is_over S.residual ≡ false)
