-- Two lists as one run.
use Rattle.calculus.proofs.OneRunLaws.{one-run-respects, one-run-ends-once, one-run-depends-alike}
use Rattle.calculus.proofs.laws.one_run_laws.Goals as goal

pub returns : goal.returns
returns c = record { respects = one-run-respects; state = one-run-ends-once; dependents = one-run-depends-alike }
