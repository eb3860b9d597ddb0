use Rattle.std.proofs.Common.{◌<◌, arith, sym, ◌∙◌}
use Rattle.shell_desk.proofs.DeedLemmas.{past-ends, past-goes-on}
use Rattle.shell_desk.proofs.bench.Bench.run_past.Goals as goal

pub returns-then-ends_run : goal.returns-then-ends_run
returns-then-ends_run g c =
    let less : 0 < c.args.limit = omega arith in
    past-ends c.args.line c.args.limit c.args.self.now c.ask-cleared.new.self c.turn-reply.new.self c.ask-set.new.self
    c.turn-reply.result c.ask-cleared.result c.ask-set.result c.end_of.result less c.ask-cleared.ensures.asked
    c.turn-reply.ensures c.ask-set.ensures.asked (sym c.ends_run.ensures ∙ c.if-ends_run.true) c.end_of.ensures

pub returns : goal.returns
returns g c =
    let less : 0 < c.args.limit = omega arith in
    past-goes-on c.args.line c.args.limit c.args.self.now c.ask-cleared.new.self c.turn-reply.new.self c.ask-set.new.self
    c.run.new.self c.turn-reply.result c.ask-cleared.result c.ask-set.result c.run.result less c.ask-cleared.ensures.asked
    c.turn-reply.ensures c.ask-set.ensures.asked (sym c.ends_run.ensures ∙ c.if-ends_run.false) c.run.ensures
