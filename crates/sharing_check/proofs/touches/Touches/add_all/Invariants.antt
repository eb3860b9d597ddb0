use Rattle.std.proofs.Common.{◌≡◌, drop}
use Rattle.sharing_check.specs.internal.Crossing.{noted_all}
use Rattle.sharing_check.proofs.touches.Touches.add_all.Given as goal

-- with the entries that are left, the table is that with all
abbrev pub invariant-loop-place : goal.invariant-loop-place
invariant-loop-place l = noted_all (drop l.place l.other) l.self ≡ noted_all l.other l.initial.self
