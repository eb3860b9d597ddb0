-- The first of the list that has the choice.
use Rattle.local_actions.specs.View.{state_of}
use Rattle.rendezvous.proofs.Listed.{ready-with}
use Rattle.rendezvous.proofs.ready.event_at.Goals as goal

pub returns : goal.returns
returns c =
    let S = state_of c.args.tree.now c.args.store.now in
    c.first_with.ensures S (ready-with S c.args.choice.now c.in_ok-events.events c.in_ok-events.ensures)
