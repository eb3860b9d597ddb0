-- What is counted is how large the system is.
use Rattle.std.proofs.Common.{rules}
use Rattle.elaborate.proofs.Expanded.{counted_test}
use Rattle.elaborate.proofs.pass.is_within_limits.Goals as goal

pub returns : goal.returns
returns c = counted_test c.args.procedures.now c.args.entries.now _ _ c.in_ok-small.small c.in_ok-small.ensures (search rules) (search rules)
