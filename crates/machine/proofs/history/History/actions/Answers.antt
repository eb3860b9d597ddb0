use Rattle.std.proofs.lemmas.Result.{IfOk-weaker}
use Rattle.runs.specs.Object.{Reaches}
use Rattle.event_inverse.specs.Grown.{state_of_tree}
use Rattle.local_actions.specs.Actions.{OffersExactly}
use Rattle.machine.specs.internal.Histories.{execution, tree_of}
use Rattle.machine.proofs.public.Standing.{stands-reaches, stands-tidy}
use Rattle.machine.proofs.history.History.actions.Goals as goal

pub returns-clause-offered : goal.returns-clause-offered
returns-clause-offered c system s =
    let h = c.args.self.now in
    let T = state_of_tree (tree_of h) in
    let reaches = stands-reaches system (tree_of h) h.live.live h.inverses h.next s in
    let tidy = stands-tidy system (tree_of h) h.live.live h.inverses h.next s in
    IfOk-weaker c.actions_of.result (λ actions. OffersExactly T actions) (λ actions. Reaches (execution system h) T × OffersExactly T actions)
    (λ actions exactly. (reaches, exactly)) (c.actions_of.ensures.exactly tidy)

pub returns-clause-in_order : goal.returns-clause-in_order
returns-clause-in_order c system s =
    let h = c.args.self.now in
    c.actions_of.ensures.once (stands-tidy system (tree_of h) h.live.live h.inverses h.next s)
