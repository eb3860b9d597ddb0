use Rattle.std.proofs.Common.{arith}
use Rattle.dap_server.proofs.Sending.{begun_none, put_more, put_none}
use Rattle.dap_server.proofs.output.put_all.Goals as goal
use Rattle.dap_server.proofs.output.put_all.Goals.{in-Ok, in-Err}

pub loop-init : goal.loop-init
loop-init g c = (omega arith, begun_none (g.W.Write.contents c.args.writer.now) c.args.bytes.now)

pub loop-preserved : goal.loop-preserved
loop-preserved g c =
    elim c.match-write.branch [
      | in-Ok w ↦
          put_more (g.W.Write.contents c.args.writer.now) (g.W.Write.contents c.loop.writer) (g.W.Write.contents c.write.new.self) c.args.bytes.now
          c.loop.done w.in-Ok.count c.match-write.done w.done-is c.loop.invariant.0 w.in-Ok.ensures.bound c.loop.invariant.1 w.in-Ok.ensures.bytes
      | in-Err w ↦
          put_none (g.W.Write.contents c.args.writer.now) (g.W.Write.contents c.loop.writer) (g.W.Write.contents c.write.new.self) c.args.bytes.now
          c.loop.done c.match-write.done w.done-is c.loop.invariant.0 c.loop.invariant.1 w.in-Err.ensures.bytes
    ]
