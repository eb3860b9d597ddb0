use Rattle.dap_threads.proofs.public.Numbered.{numbered_more}
use Rattle.dap_threads.proofs.standing.listed.Goals as goal

pub loop-branch-preserved : goal.loop-branch-preserved
loop-branch-preserved c =
    numbered_more c.loop-branch.list c.push.new.self c.thread.result c.loop-branch.branch c.loop-branch.invariant c.thread.ensures c.push.ensures
