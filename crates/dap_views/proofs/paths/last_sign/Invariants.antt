-- The last sign among the bytes that are left, or else the last before them, is that among all.
use Rattle.std.proofs.Common.{◌≡◌, ◌<◌, None, drop}
use Rattle.std.specs.Prelude.{IfSome}
use Rattle.dap_views.specs.Files.{last_sign}
use Rattle.dap_views.proofs.paths.last_sign.Given as goal

abbrev pub invariant-loop-index : goal.invariant-loop-index
invariant-loop-index l = record {
  found : last_sign l.drives l.index l.found (drop l.index l.path) ≡ last_sign l.drives 0 None l.path;
  within : IfSome l.found (λ k. k < l.index);
}
