use Rattle.std.proofs.Common.{◌≡◌, drop}
use Rattle.sharing_check.specs.internal.Crossing.{noted_all, least_with}
use Rattle.sharing_check.proofs.touches.Touches.add_branch.Given as goal

-- with the entries that are left, the table and the least offset are those with all
abbrev pub invariant-loop-place : goal.invariant-loop-place
invariant-loop-place l = record {
  added : noted_all (drop l.place l.other) l.self ≡ noted_all l.other l.initial.self;
  least : least_with l.variables (drop l.place l.other) l.self l.least ≡ least_with l.variables l.other l.initial.self l.fn.least;
}
