use Rattle.dap_requests.proofs.Listing.{unwatched_more}
use Rattle.dap_requests.proofs.watches.unwatched.Goals as goal

pub loop-value-preserved : goal.loop-value-preserved
loop-value-preserved c =
    unwatched_more c.args.items.now c.loop-value.value-index c.value-item.result c.loop-value.list c.push.new.self c.unset.result c.loop-value-test.true
    c.loop-value.invariant c.unset.ensures c.push.ensures
