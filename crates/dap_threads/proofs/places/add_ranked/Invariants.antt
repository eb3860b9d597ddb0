-- Those among the actions before are added.
use Rattle.std.proofs.Common.{◌≡◌}
use Rattle.dap_threads.specs.Frames.{with_ranked}
use Rattle.dap_threads.proofs.places.add_ranked.Given as goal

abbrev pub invariant-loop-index : goal.invariant-loop-index
invariant-loop-index l = l.found.items ≡ with_ranked l.initial.found.items l.system l.sight l.branch l.rank l.index
