-- In the steps that are left the answer is as it is in all.
use Rattle.std.proofs.Common.{◌≡◌, ◌-◌}
use Rattle.dap_views.specs.Files.{same_names}
use Rattle.dap_views.proofs.paths.same_names.Given as goal

abbrev pub invariant-loop-step : goal.invariant-loop-step
invariant-loop-step l = same_names l.drives l.free (l.steps - l.step) l.left l.right ≡ same_names l.drives l.free l.steps l.file l.path
