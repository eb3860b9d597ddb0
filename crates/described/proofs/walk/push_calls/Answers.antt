-- A call goes from the end of those that are left onto the work.
use Rattle.std.proofs.Common.{◌≡◌, ◌∷◌, ◌++◌, [], ap, ◌∙◌}
use Rattle.described.specs.declared.walk.Pending.{Pending}
use Rattle.described.specs.internal.Pendings.{pending_of}
use Rattle.described.proofs.Tellings.{one_put}
use Rattle.described.proofs.walk.push_calls.Goals as goal

pub calls-preserved : goal.calls-preserved
calls-preserved c = λ procedures found.
    let number = c.len-number.result in
    let call = c.in-Some.call in
    let put : c.push.new.self ≡ c.calls.work ++ pending_of c.args.entered.now c.args.earlier number call ∷ [] =
    c.in_ok-push.ensures.ok ∙ ap (λ (w : Pending). c.calls.work ++ w ∷ []) c.in_ok-pending_of.ensures in
    one_put procedures c.args.earlier number c.args.entered.now c.calls.calls c.pop.new.self call c.calls.work c.push.new.self found
    c.in-Some.ensures c.len-number.ensures put
    ∙ c.calls.invariant procedures found
