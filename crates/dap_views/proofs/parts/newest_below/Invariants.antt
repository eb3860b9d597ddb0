use Rattle.std.proofs.Common.{◌≡◌, ℕ, ◌≤◌, ◌<◌, Some, false}
use Rattle.std.specs.Prelude.{slice_get}
use Rattle.runs.specs.declared.event.Event.{Event}
use Rattle.dap_views.specs.Parts.{takes_part}
use Rattle.dap_views.proofs.parts.newest_below.Given as goal

abbrev pub invariant-loop-left : goal.invariant-loop-left
invariant-loop-left l = record {
  within : l.left ≤ l.below;
  none : (i : ℕ) (x : ℕ × Event) → l.left ≤ i → i < l.below → slice_get l.live.live i ≡ Some x → takes_part l.system l.branch x.1 ≡ false;
}

abbrev pub decreases-loop-left : goal.decreases-loop-left
decreases-loop-left l = l.left
