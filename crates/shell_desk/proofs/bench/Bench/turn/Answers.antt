use Rattle.std.proofs.Common.{◌<◌, ◌≤◌, arith, sym, ◌∙◌}
use Rattle.locked_execution.specs.declared.command.Reply.{Reply}
use Rattle.shell_desk.proofs.DeedLemmas.{turn-begins, turn-goes-on, turn-ends, turn-idle}
use Rattle.shell_desk.proofs.bench.Bench.turn.Goals as goal

pub loop-passed-init : goal.loop-passed-init
loop-passed-init g c =
    turn-begins c.args.self.now c.branch_count-count.result c.first-branch.result c.branch_count-count.ensures c.first-branch.ensures.first

pub loop-passed-preserved : goal.loop-passed-preserved
loop-passed-preserved g c = λ reply b' rest.
    let less : c.loop-passed.passed < c.branch_count-count.result = omega arith in
    c.loop-passed.invariant reply b'
    (turn-goes-on c.branch_count-count.result c.loop-passed.passed c.loop-passed.branch c.next_of-branch.result c.loop-passed.self
    c.ask-reply.new.self c.ask-reply.result less c.ask-reply.ensures.asked (sym c.is_busy.ensures ∙ c.if-is_busy.false)
    c.next_of-branch.ensures.next reply b' rest)

pub returns-then-is_busy : goal.returns-then-is_busy
returns-then-is_busy g c =
    let less : c.loop-passed.passed < c.branch_count-count.result = omega arith in
    c.loop-passed.invariant c.ask-reply.result c.ask-reply.new.self
    (turn-ends c.branch_count-count.result c.loop-passed.passed c.loop-passed.branch c.loop-passed.self c.ask-reply.new.self
    c.ask-reply.result less c.ask-reply.ensures.asked (sym c.is_busy.ensures ∙ c.if-is_busy.true))

pub returns : goal.returns
returns g c =
    let past : c.branch_count-count.result ≤ c.loop-passed.passed = omega arith in
    c.loop-passed.invariant Reply.Idle c.loop-passed.self
    (turn-idle c.branch_count-count.result c.loop-passed.passed c.loop-passed.branch c.loop-passed.self past)
