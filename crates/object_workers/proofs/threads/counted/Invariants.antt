use Rattle.std.proofs.Common.{◌≡◌, ◌++◌, length}
use Rattle.std.specs.Vec.{vec_capacity}
use Rattle.std.specs.Vec.Iter.{into_iter_items, into_iter_len}
use Rattle.object_workers.specs.internal.Workers.{IsCounted}
use Rattle.object_workers.proofs.threads.counted.Given as goal

-- the workers so far are counted
abbrev pub invariant-loop-worker : goal.invariant-loop-worker
invariant-loop-worker g l = record {
  rest : l.yielded ++ into_iter_items l.worker-iterator ≡ l.fn.workers.items;
  left : into_iter_len l.worker-iterator ≡ length (into_iter_items l.worker-iterator);
  room : vec_capacity l.done ≡ vec_capacity l.initial.done;
  counted : IsCounted l.yielded l.done.items l.stepped l.lost;
}
