use Rattle.std.proofs.Common.{◌≡◌, drop}
use Rattle.system.specs.Expression.{is_in}
use Rattle.run_depths.proofs.races.reads.Given as goal

abbrev pub invariant-loop-held : goal.invariant-loop-held
invariant-loop-held l = is_in l.variable (drop l.held-index l.read) ≡ is_in l.variable l.read
