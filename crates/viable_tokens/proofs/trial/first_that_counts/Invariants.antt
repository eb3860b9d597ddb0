use Rattle.std.proofs.Common.{◌≤◌}
use Rattle.viable_tokens.specs.internal.Trials.{Counts}
use Rattle.viable_tokens.proofs.trial.first_that_counts.Given as goal

abbrev pub invariant-loop-index : goal.invariant-loop-index
invariant-loop-index l = record {
  behind : l.first ≤ l.index;
  counts : Counts l.tokens l.first;
}
