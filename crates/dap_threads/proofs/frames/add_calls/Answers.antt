use Rattle.std.proofs.Common.{◌++◌, map, sym, ◌∙◌}
use Rattle.dap_views.specs.Around.{calls_around}
use Rattle.dap_threads.specs.Frames.{at_call}
use Rattle.dap_threads.proofs.Around.{called_more}
use Rattle.dap_threads.proofs.frames.add_calls.Goals as goal

pub outwards-preserved : goal.outwards-preserved
outwards-preserved c =
    called_more c.args.index.now c.outwards.frames.items c.push.new.self.items
    (c.args.frames.now.items ++ map at_call (calls_around c.args.index.now c.args.call)) c.outwards.left c.outwards.inner c.in-Some.outer
    c.outwards-test.true (sym c.around.ensures ∙ c.in-Some.is) c.in_ok-push.ensures.items c.outwards.invariant
