use Rattle.std.proofs.Common.{◌≡◌, ◌≤◌, true, length}
use Rattle.elaborate.proofs.Fronts.{Kept}
use Rattle.elaborate.proofs.stimulus_front.Front.read.Given as goal

-- the entries kept of the lines passed, and the lines that are left
abbrev pub invariant-loop-rest : goal.invariant-loop-rest
invariant-loop-rest l = record {
  kept : Kept l.fn.text l.line l.front.stimulus.entries l.front.is_cut l.rest;
  few : length l.front.stimulus.entries ≤ l.fn.most;
  full : l.front.is_cut ≡ true → length l.front.stimulus.entries ≡ l.fn.most;
}

abbrev pub decreases-loop-rest : goal.decreases-loop-rest
decreases-loop-rest l = length l.rest
