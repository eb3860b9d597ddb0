-- Those among the calls before are added.
use Rattle.std.proofs.Common.{ℕ, map}
use Rattle.dap_views.specs.declared.handles.Handle.{Handle}
use Rattle.dap_threads.specs.Variables.{calls_within}
use Rattle.dap_threads.specs.internal.Listing.{AddsUnfolded}
use Rattle.dap_threads.proofs.values.add_calls.Given as goal

abbrev pub invariant-loop-index : goal.invariant-loop-index
invariant-loop-index l =
    AddsUnfolded l.initial.list (map (λ (k : ℕ). Handle.Instance k) (calls_within l.program.index l.instance l.index)) l.list
