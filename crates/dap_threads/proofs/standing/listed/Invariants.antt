-- Those before are listed.
use Rattle.std.proofs.Common.{◌≡◌, false, map}
use Rattle.serde_json.specs.View.{view}
use Rattle.dap_threads.specs.Given.{AreNumbered, numbers_to}
use Rattle.dap_threads.proofs.standing.listed.Given as goal

abbrev pub invariant-loop-branch : goal.invariant-loop-branch
invariant-loop-branch l = l.list.lacks ≡ false → AreNumbered (map view l.list.made.items) (numbers_to l.branch)
