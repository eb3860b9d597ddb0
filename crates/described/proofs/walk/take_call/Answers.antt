-- The call that is told, and what is in the body that it calls, is what it was still to tell.
use Rattle.std.proofs.Common.{ap, sym, ◌∙◌, reverse, take}
use Rattle.std.proofs.lemmas.Result.{on_ok_weaker}
use Rattle.described.specs.Telling.{tell_body, tellings}
use Rattle.described.specs.internal.Pendings.{leads}
use Rattle.described.proofs.Tellings.{pending_told, pending_none}
use Rattle.described.proofs.walk.take_call.Goals as goal

pub returns-in_ok-add_call-in-Some : goal.returns-in_ok-add_call-in-Some
returns-in_ok-add_call-in-Some c =
    let ps = c.args.procedures.now in
    let call = c.args.call in
    let p = c.in-Some.called.now in
    let told = pending_told ps call p c.args.found.now (sym c.in-Some.ensures) in
    let noted = ap (tell_body (tellings (take call.procedure ps)) p call.entered) c.in_ok-add_call-in-Some.ensures in
    on_ok_weaker c.enter.result (λ h. h ps ∙ ap (leads ps (reverse c.args.work.now)) (noted ∙ sym told)) c.enter.ensures

pub returns-in-None : goal.returns-in-None
returns-in-None c =
    let ps = c.args.procedures.now in
    ap (leads ps (reverse c.args.work.now)) (sym (pending_none ps c.args.call c.args.found.now (sym c.in-None.ensures)))
