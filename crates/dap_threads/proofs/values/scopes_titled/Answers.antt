use Rattle.std.proofs.Common.{◌+◌, ◌∷◌, [], ap}
use Rattle.dap_views.specs.declared.handles.Handle.{Handle}
use Rattle.dap_threads.proofs.Unfolding.{reference_as, unfolded_more, unfolded_none}
use Rattle.dap_threads.proofs.values.scopes_titled.Goals as goal

pub returns : goal.returns
returns c =
    let one = Handle.Variables c.args.instance in
    let two = Handle.Channels c.args.instance in
    let three = Handle.Steps (c.args.branch + 1) in
    unfolded_more c.push-3.new.self c.push-4.new.self c.scope-4.result (one ∷ two ∷ three ∷ []) (Handle.Instance 0)
    (unfolded_more c.push-2.new.self c.push-3.new.self c.scope-3.result (one ∷ two ∷ []) three
    (unfolded_more c.push.new.self c.push-2.new.self c.scope-2.result (one ∷ []) two
    (unfolded_more c.new-list.result c.push.new.self c.scope.result [] one (unfolded_none c.new-list.result c.new-list.ensures) c.scope.ensures c.push.ensures)
    c.scope-2.ensures c.push-2.ensures)
    (reference_as c.scope-3.result (c.from-thread.result + 1) (c.args.branch + 1) (ap (λ n. n + 1) c.from-thread.ensures) c.scope-3.ensures) c.push-3.ensures)
    c.scope-4.ensures c.push-4.ensures
