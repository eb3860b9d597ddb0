use Rattle.std.proofs.Common.{arith}
use Rattle.object_workers.proofs.public.Turns.{none_ran, turn_more, counts_few}
use Rattle.object_workers.proofs.worker.Worker.run.Goals as goal

pub loop-turn-init : goal.loop-turn-init
loop-turn-init g c = record {
  fits = c.requires.fits;
  ran = none_ran _ _ g.D.Branches.asks g.B.Branching.count _ g.D.Branches.steps c.args.self.now c.requires.fits.pass;
}

pub turn-requires-clause-few : goal.turn-requires-clause-few
turn-requires-clause-few g c κs within =
    let few = counts_few _ _ g.D.Branches.asks g.B.Branching.count _ g.D.Branches.steps _ c.args.self.now c.loop-turn.self c.requires.new.0 c.requires.new.1 c.loop-turn.invariant.ran in
    (few.0, few.1, (let below = c.loop-turn-test.true in let all = c.ranges.turns.fits in omega arith))

pub loop-turn-preserved : goal.loop-turn-preserved
loop-turn-preserved g c = record {
  fits = c.turn.ensures.fits;
  ran = turn_more _ _ g.D.Branches.asks g.B.Branching.count _ g.D.Branches.steps c.loop-turn.turn c.args.self.now c.loop-turn.self c.turn.new.self c.loop-turn.invariant.ran c.turn.ensures.ran;
}
