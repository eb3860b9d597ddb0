use Rattle.std.proofs.Common.{arith}
use Rattle.object_workers.proofs.Gathering.{all_ready, gathered, ran_length, counts_fit, workers_ran, passes_saw}
use Rattle.object_workers.proofs.threads.run_dealt.Goals as goal

pub run_list-requires-clause-ready : goal.run_list-requires-clause-ready
run_list-requires-clause-ready g c κs within = all_ready _ _ _ 0 c.args.passes.items c.make_ready.new.workers.items c.requires.passes c.make_ready.ensures.ready

pub counted-requires-clause-few : goal.counted-requires-clause-few
counted-requires-clause-few g c =
    counts_fit _ _ _ g.D.Branches.asks g.D.Branches.steps g.B.Branching.count c.args.turns c.args.passes.items c.run_list.new.workers.items
    (gathered _ _ _ g.D.Branches.asks g.D.Branches.steps g.B.Branching.count c.args.turns _ 0 c.args.passes.items c.make_ready.new.workers.items c.run_list.new.workers.items c.make_ready.ensures.ready c.run_list.ensures) c.requires.turns c.requires.few

pub counted-requires-clause-room : goal.counted-requires-clause-room
counted-requires-clause-room g c =
    let same = ran_length _ _ _ g.D.Branches.asks g.D.Branches.steps g.B.Branching.count c.args.turns _ 0 c.args.passes.items c.make_ready.new.workers.items c.run_list.new.workers.items c.make_ready.ensures.ready c.run_list.ensures in
    let room = c.in-Ok.ensures.done.1 in
    let many = c.len.ensures in
    (c.in-Ok.ensures.done.0, (omega arith))

pub returns-clause-ran : goal.returns-clause-ran
returns-clause-ran g c =
    workers_ran _ _ _ g.D.Branches.asks g.D.Branches.steps g.B.Branching.count c.args.turns c.args.passes.items _ c.run_list.new.workers.items _ _
    (gathered _ _ _ g.D.Branches.asks g.D.Branches.steps g.B.Branching.count c.args.turns _ 0 c.args.passes.items c.make_ready.new.workers.items c.run_list.new.workers.items c.make_ready.ensures.ready c.run_list.ensures) c.counted.ensures

pub returns-clause-legal : goal.returns-clause-legal
returns-clause-legal g c =
    passes_saw _ _ _ g.D.Branches.asks g.D.Branches.steps g.B.Branching.count c.args.turns c.args.passes.items _ c.run_list.new.workers.items _ _
    (gathered _ _ _ g.D.Branches.asks g.D.Branches.steps g.B.Branching.count c.args.turns _ 0 c.args.passes.items c.make_ready.new.workers.items c.run_list.new.workers.items c.make_ready.ensures.ready c.run_list.ensures) c.counted.ensures
