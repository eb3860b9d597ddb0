use Rattle.std.proofs.lemmas.Result.{IfOk-weaker}
use Rattle.runs.specs.Object.{Reaches}
use Rattle.runs.specs.Ready.{ReadyList}
use Rattle.event_inverse.specs.Grown.{state_of_tree}
use Rattle.machine.specs.internal.Histories.{execution, tree_of}
use Rattle.machine.proofs.public.Standing.{stands-tidy}
use Rattle.machine.proofs.Stepped.{in-vec}
use Rattle.machine.proofs.history.History.ready.Goals as goal

pub returns : goal.returns
returns c = λ system holds.
    let h = c.args.self.now in
    let T = state_of_tree (tree_of h) in
    let listed = c.ready_events.ensures (stands-tidy system (tree_of h) h.live.live h.inverses h.next holds) in
    in-vec (λ es. Reaches (execution system h) T × ReadyList T es) c.ready_events.result c.in_vec.result
    (IfOk-weaker c.ready_events.result (λ es. ReadyList T es) (λ es. Reaches (execution system h) T × ReadyList T es) (λ es list. (holds.run.runs, list)) listed)
    c.in_vec.ensures
