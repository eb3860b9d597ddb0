use Rattle.object_workers.specs.internal.Workers.{WorkerFits, WorkerRan}
use Rattle.object_workers.proofs.worker.Worker.run.Given as goal

-- so many turns are taken
abbrev pub invariant-loop-turn : goal.invariant-loop-turn
invariant-loop-turn g l = record {
  fits : WorkerFits l.work.shared.now.board.table.shared.table_id l.work.shared.now.board.table.shared.key l.work.queue.now.table.shared.table_id l.self;
  ran :
      WorkerRan l.work.shared.now.board.table.shared.table_id l.work.shared.now.board.table.shared.key g.D.Object.performs g.D.Branches.asks g.D.Branches.steps g.B.Branching.count
      l.turn l.initial.self l.self;
}
