use Rattle.std.proofs.Common.{◌≡◌, [], take, drop}
use Rattle.elaborate.specs.Fit.{first_misfit}
use Rattle.elaborate.proofs.ports.misfit.Given as goal

abbrev pub invariant-loop-position : goal.invariant-loop-position
invariant-loop-position l = first_misfit l.ports (take l.position l.entries) (drop l.position l.entries) ≡ first_misfit l.ports [] l.entries
