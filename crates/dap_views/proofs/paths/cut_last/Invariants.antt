-- In the steps that are left it is found as it is in all.
use Rattle.std.proofs.Common.{◌≡◌, ◌-◌, length}
use Rattle.dap_views.specs.Files.{last_name}
use Rattle.dap_views.proofs.paths.cut_last.Given as goal

abbrev pub invariant-loop-step : goal.invariant-loop-step
invariant-loop-step l = last_name l.drives (length l.path - l.step) l.above l.rest ≡ last_name l.drives (length l.path) 0 l.path
