use Rattle.std.proofs.Common.{◌≡◌, [], ◌++◌, length}
use Rattle.std.specs.Vec.{vec_capacity}
use Rattle.std.specs.Vec.Iter.{into_iter_items, into_iter_len}
use Rattle.crossbeam_queue.specs.Passes.{IsPassOf, view}
use Rattle.object_workers.specs.Dealt.{hand}
use Rattle.object_workers.specs.internal.Workers.{Ready}
use Rattle.object_workers.proofs.threads.make_ready.Given as goal

-- the passes so far have workers
abbrev pub invariant-loop-pass : goal.invariant-loop-pass
invariant-loop-pass g l = record {
  fits : IsPassOf l.line l.seat;
  rest : l.yielded ++ into_iter_items l.pass-iterator ≡ l.fn.passes.items;
  left : into_iter_len l.pass-iterator ≡ length (into_iter_items l.pass-iterator);
  room : vec_capacity l.workers ≡ vec_capacity l.initial.workers;
  empty : view l.seat ≡ hand [];
  number : l.number ≡ length l.yielded;
  ready : Ready l.line.table.shared.table_id 0 l.yielded l.workers.items;
}
