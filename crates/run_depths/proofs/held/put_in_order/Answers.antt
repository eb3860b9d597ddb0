use Rattle.std.proofs.Common.{rules, of_calls}
use Rattle.run_depths.proofs.HeldLaws.{sorted-by-place}
use Rattle.run_depths.proofs.held.put_in_order.Goals as goal

pub returns-clause-ordered : goal.returns-clause-ordered
returns-clause-ordered c = sorted-by-place _ c.in_ok-sort_by.ensures.sorted (λ a r q k. search (rules, of_calls))
