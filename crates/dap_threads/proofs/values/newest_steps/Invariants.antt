-- None of those so far is unfolded.
use Rattle.dap_threads.specs.internal.Listing.{ListsLeaves}
use Rattle.dap_threads.proofs.values.newest_steps.Given as goal

abbrev pub invariant-loop : goal.invariant-loop
invariant-loop l = ListsLeaves l.list
