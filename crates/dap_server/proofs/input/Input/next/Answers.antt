use Rattle.std.proofs.lemmas.Result.{IfOk-weaker}
use Rattle.dap_server.specs.internal.Reading.{held}
use Rattle.dap_server.proofs.Framing.{next_ended, next_large, next_whole, read_none, read_then, whole_is}
use Rattle.dap_server.proofs.Sessions.{reads_then}
use Rattle.dap_server.proofs.input.Input.next.Goals as goal

pub loop-init : goal.loop-init
loop-init g c = read_none (g.R.Read.remaining c.args.reader.now) c.args.self.now

pub loop-preserved : goal.loop-preserved
loop-preserved g c =
    read_then (g.R.Read.remaining c.args.reader.now) (g.R.Read.remaining c.loop.reader) (g.R.Read.remaining c.read_more.new.reader)
    c.args.self.now c.loop.self c.read_more.new.self c.loop.invariant c.in_ok-read_more.ensures.reads

pub whole-requires-clause-rises : goal.whole-requires-clause-rises
whole-requires-clause-rises g c = (whole_is (held c.loop.self) c.in-Whole.from c.in-Whole.to c.in-Whole.ensures).rises

pub returns-in-Whole-clause-next : goal.returns-in-Whole-clause-next
returns-in-Whole-clause-next g c =
    next_whole (g.R.Read.remaining c.args.reader.now) (g.R.Read.remaining c.loop.reader) c.args.self.now c.loop.self c.whole.new.self
    c.whole.result c.loop.invariant c.whole.ensures.next

pub returns-in-Large-clause-next : goal.returns-in-Large-clause-next
returns-in-Large-clause-next g c =
    IfOk-weaker c.large.result _ _
    (λ next. next_large (g.R.Read.remaining c.args.reader.now) (g.R.Read.remaining c.loop.reader) (g.R.Read.remaining c.large.new.reader)
    c.args.self.now c.loop.self c.large.new.self next c.loop.invariant) c.large.ensures.next

pub returns-then-not-branch-clause-next : goal.returns-then-not-branch-clause-next
returns-then-not-branch-clause-next g c =
    IfOk-weaker c.ended.result _ _
    (λ next. next_ended (g.R.Read.remaining c.args.reader.now) (g.R.Read.remaining c.loop.reader) (g.R.Read.remaining c.read_more.new.reader)
    c.args.self.now c.loop.self c.read_more.new.self next c.loop.invariant c.in_ok-read_more.ensures.reads) c.ended.ensures

pub returns-in-Whole-clause-some : goal.returns-in-Whole-clause-some
returns-in-Whole-clause-some g c = (c.loop.invariant.0, c.loop.invariant.1)

pub returns-in-Broken-clause-some : goal.returns-in-Broken-clause-some
returns-in-Broken-clause-some g c = (c.loop.invariant.0, c.loop.invariant.1)

pub returns-in-Large-clause-some : goal.returns-in-Large-clause-some
returns-in-Large-clause-some g c =
    reads_then (g.R.Read.remaining c.args.reader.now) (g.R.Read.remaining c.loop.reader) (g.R.Read.remaining c.large.new.reader)
    (c.loop.invariant.0, c.loop.invariant.1) c.large.ensures.some

pub returns-then-not-branch-clause-some : goal.returns-then-not-branch-clause-some
returns-then-not-branch-clause-some g c =
    reads_then (g.R.Read.remaining c.args.reader.now) (g.R.Read.remaining c.loop.reader) (g.R.Read.remaining c.read_more.new.reader)
    (c.loop.invariant.0, c.loop.invariant.1) c.read_more.ensures.some

pub returns-in_err-read_more-clause-some : goal.returns-in_err-read_more-clause-some
returns-in_err-read_more-clause-some g c =
    reads_then (g.R.Read.remaining c.args.reader.now) (g.R.Read.remaining c.loop.reader) (g.R.Read.remaining c.read_more.new.reader)
    (c.loop.invariant.0, c.loop.invariant.1) c.read_more.ensures.some
