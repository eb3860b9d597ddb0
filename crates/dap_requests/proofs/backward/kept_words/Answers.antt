use Rattle.dap_requests.proofs.Forward.{stands_needed, stands_own}
use Rattle.dap_requests.proofs.backward.kept_words.Goals as goal

pub returns-in-NeededBy : goal.returns-in-NeededBy
returns-in-NeededBy c =
    stands_needed c.args.machine.now c.args.branch c.args.ticket c.in-NeededBy.first c.args.why c.acting_branch.result c.unwrap_or.result
    c.in-NeededBy.is (c.acting_branch.ensures (c.requires c.in-NeededBy.first c.in-NeededBy.is)) c.unwrap_or.ensures

pub returns-in_default : goal.returns-in_default
returns-in_default c = stands_own c.args.machine.now c.args.branch c.args.ticket c.args.why c.in_default.not-NeededBy
