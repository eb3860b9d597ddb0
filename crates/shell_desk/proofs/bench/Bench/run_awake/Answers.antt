use Rattle.std.proofs.Common.{◌<◌, ◌≤◌, arith, sym, ◌∙◌}
use Rattle.shell_desk.specs.declared.deed.End.{End}
use Rattle.shell_desk.proofs.DeedLemmas.{run-begins, run-goes-on, run-ends, run-enough}
use Rattle.shell_desk.proofs.bench.Bench.run_awake.Goals as goal

pub awake_turn-reply-requires : goal.awake_turn-reply-requires
awake_turn-reply-requires g c = c.loop-taken.invariant.0

pub loop-taken-init : goal.loop-taken-init
loop-taken-init g c =
    ((c.requires, λ k sleeps. absurd (c.none-sleepers.ensures k sleeps)), run-begins c.args.limit c.args.self.now)

pub loop-taken-preserved : goal.loop-taken-preserved
loop-taken-preserved g c =
    let less : c.loop-taken.taken < c.args.limit = omega arith in (
      c.awake_turn-reply.ensures.resting,
      λ end b' rest.
          c.loop-taken.invariant.1 end b'
          (run-goes-on c.args.limit c.loop-taken.taken c.loop-taken.self c.awake_turn-reply.new.self c.awake_turn-reply.result less
          c.awake_turn-reply.ensures.turn (sym c.ends_run.ensures ∙ c.if-ends_run.false) end b' rest),
    )

pub returns-then-ends_run : goal.returns-then-ends_run
returns-then-ends_run g c =
    let less : c.loop-taken.taken < c.args.limit = omega arith in
    c.loop-taken.invariant.1 c.end_of.result c.awake_turn-reply.new.self
    (run-ends c.args.limit c.loop-taken.taken c.loop-taken.self c.awake_turn-reply.new.self c.awake_turn-reply.result c.end_of.result
    less c.awake_turn-reply.ensures.turn (sym c.ends_run.ensures ∙ c.if-ends_run.true) c.end_of.ensures)

pub returns : goal.returns
returns g c =
    let past : c.args.limit ≤ c.loop-taken.taken = omega arith in
    c.loop-taken.invariant.1 End.Enough c.loop-taken.self (run-enough c.args.limit c.loop-taken.taken c.loop-taken.self past)
