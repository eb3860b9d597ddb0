-- Calls that are still to be told.
use Rattle.std.specs.Prelude.{ℕ, List, [], ◌∷◌, take}
use Rattle.types.specs.declared.tree.Procedure.{Procedure}
use Rattle.described.specs.Telling.{Found, entered_by, told_by, tellings}
use Rattle.described.specs.declared.body_calls.BodyCall.{BodyCall}
use Rattle.described.specs.declared.walk.Entered.{Entered}
use Rattle.described.specs.declared.walk.Pending.{Pending}

-- the call of this number, from 1, in a body that is entered so, whose procedure comes behind so many
abbrev pub pending_of : Entered → ℕ → ℕ → BodyCall → Pending
pending_of e earlier number c =
    record { entered = entered_by e number c; line = c.line; procedure = c.procedure; earlier = earlier }

-- what one of them tells
abbrev pub tell_pending : List Procedure → Pending → Found → Found
tell_pending procedures w f =
    told_by (tellings (take w.earlier procedures)) w.procedure w.entered w.line f

-- what they lead to, the next one first
abbrev pub leads : List Procedure → List Pending → Found → Found
leads procedures [] f = f
leads procedures (w ∷ ws) f = leads procedures ws (tell_pending procedures w f)
