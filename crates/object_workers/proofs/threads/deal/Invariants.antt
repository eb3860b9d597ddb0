use Rattle.std.proofs.Common.{◌≡◌, ◌-◌}
use Rattle.crossbeam_queue.specs.Passes.{IsPassOf, view}
use Rattle.object_workers.specs.Dealt.{range}
use Rattle.object_workers.proofs.threads.deal.Given as goal

-- the numbers from this one on are in one's hands
abbrev pub invariant-loop-number : goal.invariant-loop-number
invariant-loop-number g l = IsPassOf l.line l.seat × ((view l.seat).numbers ≡ range l.number (l.branches - l.number))
