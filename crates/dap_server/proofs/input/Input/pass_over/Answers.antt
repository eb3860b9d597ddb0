use Rattle.std.proofs.Common.{◌≡◌, ◌+◌, ◌≤◌, length, refl, ap, arith}
use Rattle.dap_server.specs.internal.Reading.{held}
use Rattle.dap_server.proofs.Framing.{passed_more, passed_none, passed_read}
use Rattle.dap_server.proofs.Sessions.{reads_then}
use Rattle.dap_server.proofs.input.Input.pass_over.Goals as goal

pub loop-init : goal.loop-init
loop-init g c = (0, passed_none (g.R.Read.remaining c.args.reader.now) c.args.self.now, omega arith)

pub returns-then-left-there-clause-passes : goal.returns-then-left-there-clause-passes
returns-then-left-there-clause-passes g c =
    let at = c.loop.invariant in
    let same : length c.rest.result.now ≡ length (held c.loop.self) = ap length c.rest.ensures in
    let there : c.loop.left ≤ length c.rest.result.now = c.if-left-there.true in
    let total : at.0 + c.loop.left ≡ c.args.count = at.2 in
    passed_more (g.R.Read.remaining c.args.reader.now) (g.R.Read.remaining c.loop.reader) c.args.self.now c.loop.self c.pass.new.self
    at.0 c.loop.left c.args.count at.1 c.pass.ensures.held (omega arith) (omega arith)

pub loop-preserved : goal.loop-preserved
loop-preserved g c =
    let at = c.loop.invariant in
    let same : length c.rest.result.now ≡ length (held c.loop.self) = ap length c.rest.ensures in
    let total : at.0 + c.loop.left ≡ c.args.count = at.2 in (
      at.0 + length c.rest.result.now,
      passed_read (g.R.Read.remaining c.args.reader.now) (g.R.Read.remaining c.loop.reader) (g.R.Read.remaining c.read_more.new.reader)
          c.args.self.now c.pass-in-loop.new.self c.read_more.new.self (at.0 + length c.rest.result.now)
          (passed_more (g.R.Read.remaining c.args.reader.now) (g.R.Read.remaining c.loop.reader) c.args.self.now c.loop.self
          c.pass-in-loop.new.self at.0 (length c.rest.result.now) (at.0 + length c.rest.result.now) at.1 c.pass-in-loop.ensures.held (omega arith) refl)
          c.in_ok-read_more.ensures.reads,
      (let more = c.if-left-there.false in omega arith),
    )

pub returns-then-left-there-clause-some : goal.returns-then-left-there-clause-some
returns-then-left-there-clause-some g c = (c.loop.invariant.1.0, c.loop.invariant.1.2)

pub returns-in_err-read_more-clause-some : goal.returns-in_err-read_more-clause-some
returns-in_err-read_more-clause-some g c =
    reads_then (g.R.Read.remaining c.args.reader.now) (g.R.Read.remaining c.loop.reader) (g.R.Read.remaining c.read_more.new.reader)
    (c.loop.invariant.1.0, c.loop.invariant.1.2) c.read_more.ensures.some

pub returns-then-not-branch-clause-some : goal.returns-then-not-branch-clause-some
returns-then-not-branch-clause-some g c =
    reads_then (g.R.Read.remaining c.args.reader.now) (g.R.Read.remaining c.loop.reader) (g.R.Read.remaining c.read_more.new.reader)
    (c.loop.invariant.1.0, c.loop.invariant.1.2) c.read_more.ensures.some
