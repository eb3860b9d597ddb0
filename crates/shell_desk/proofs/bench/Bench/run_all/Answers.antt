use Rattle.std.proofs.Common.{◌<◌, ◌≤◌, arith, sym, ◌∙◌}
use Rattle.shell_desk.specs.declared.deed.End.{End}
use Rattle.shell_desk.proofs.DeedLemmas.{run-begins, run-goes-on, run-ends, run-enough}
use Rattle.shell_desk.proofs.bench.Bench.run_all.Goals as goal

pub loop-taken-init : goal.loop-taken-init
loop-taken-init g c = run-begins c.args.limit c.args.self.now

pub loop-taken-preserved : goal.loop-taken-preserved
loop-taken-preserved g c = λ end b' rest.
    let less : c.loop-taken.taken < c.args.limit = omega arith in
    c.loop-taken.invariant end b'
    (run-goes-on c.args.limit c.loop-taken.taken c.loop-taken.self c.turn-reply.new.self c.turn-reply.result less
    c.turn-reply.ensures (sym c.ends_run.ensures ∙ c.if-ends_run.false) end b' rest)

pub returns-then-ends_run : goal.returns-then-ends_run
returns-then-ends_run g c =
    let less : c.loop-taken.taken < c.args.limit = omega arith in
    c.loop-taken.invariant c.end_of.result c.turn-reply.new.self
    (run-ends c.args.limit c.loop-taken.taken c.loop-taken.self c.turn-reply.new.self c.turn-reply.result c.end_of.result less
    c.turn-reply.ensures (sym c.ends_run.ensures ∙ c.if-ends_run.true) c.end_of.ensures)

pub returns : goal.returns
returns g c =
    let past : c.args.limit ≤ c.loop-taken.taken = omega arith in
    c.loop-taken.invariant End.Enough c.loop-taken.self (run-enough c.args.limit c.loop-taken.taken c.loop-taken.self past)
