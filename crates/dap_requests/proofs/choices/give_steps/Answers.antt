use Rattle.dap_requests.proofs.Choosing.{steps_given}
use Rattle.dap_requests.proofs.choices.give_steps.Goals as goal

pub returns : goal.returns
returns c =
    steps_given c.args.machine.now c.args.sight.now c.args.branch c.as_slice.result.now c.listing.result c.target_list-list.result c.body.new.self
    c.as_slice.ensures c.listing.ensures.lists c.listing.ensures.whole c.target_list-list.ensures c.body.ensures.body
