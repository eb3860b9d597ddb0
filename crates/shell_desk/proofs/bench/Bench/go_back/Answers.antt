use Rattle.std.proofs.Common.{◌<◌, ◌≤◌, arith, sym, ◌∙◌, Some, None}
use Rattle.shell_desk.proofs.DeedLemmas.{back-begins, back-goes-on, back-ends, back-empty, back-enough}
use Rattle.shell_desk.proofs.bench.Bench.go_back.Goals as goal

pub loop-taken-init : goal.loop-taken-init
loop-taken-init g c = back-begins c.args.count c.args.self.now

pub loop-taken-preserved : goal.loop-taken-preserved
loop-taken-preserved g c = λ told b' rest.
    let less : c.loop-taken.taken < c.args.count = omega arith in
    c.loop-taken.invariant told b'
    (back-goes-on c.args.count c.loop-taken.taken c.in-Some.ticket c.loop-taken.self c.ask-reply.new.self c.ask-reply.result less
    c.in-Some.ensures c.ask-reply.ensures.asked (sym c.ends_way.ensures ∙ c.if-ends_way.false) told b' rest)

pub returns-then-ends_way : goal.returns-then-ends_way
returns-then-ends_way g c =
    let less : c.loop-taken.taken < c.args.count = omega arith in
    c.loop-taken.invariant (Some c.ask-reply.result) c.ask-reply.new.self
    (back-ends c.args.count c.loop-taken.taken c.in-Some.ticket c.loop-taken.self c.ask-reply.new.self c.ask-reply.result less
    c.in-Some.ensures c.ask-reply.ensures.asked (sym c.ends_way.ensures ∙ c.if-ends_way.true))

pub returns-in_default : goal.returns-in_default
returns-in_default g c =
    let less : c.loop-taken.taken < c.args.count = omega arith in
    c.loop-taken.invariant None c.loop-taken.self
    (back-empty c.args.count c.loop-taken.taken c.loop-taken.self less c.in_default.ensures)

pub returns : goal.returns
returns g c =
    let past : c.args.count ≤ c.loop-taken.taken = omega arith in
    c.loop-taken.invariant None c.loop-taken.self (back-enough c.args.count c.loop-taken.taken c.loop-taken.self past)
