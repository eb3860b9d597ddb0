use Rattle.std.proofs.Common.{◌≡◌, ◌≤◌, ◌<◌, ℕ}
use Rattle.dap_moves.specs.Passing.{IsIdle}
use Rattle.dap_moves.proofs.run.step_between.Given as goal

abbrev pub invariant-loop-branch : goal.invariant-loop-branch
invariant-loop-branch l = record {
  same : l.desk ≡ l.initial.desk;
  idle : (k : ℕ) → l.from ≤ k → k < l.branch → IsIdle l.initial.desk k;
}
