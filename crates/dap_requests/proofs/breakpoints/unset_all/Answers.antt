use Rattle.dap_requests.proofs.Listing.{unset_more}
use Rattle.dap_requests.proofs.breakpoints.unset_all.Goals as goal

pub loop-line-preserved : goal.loop-line-preserved
loop-line-preserved c =
    unset_more c.args.lines.now c.loop-line.line-index _ c.loop-line.list c.push.new.self c.unset.result c.loop-line-test.true c.loop-line.invariant
    c.unset.ensures.verified c.unset.ensures.line_is c.push.ensures
