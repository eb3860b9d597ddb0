-- Those before are listed, and there are so many.
use Rattle.std.proofs.Common.{◌≡◌, ◌≤◌, false, length, map}
use Rattle.serde_json.specs.View.{view}
use Rattle.dap_moves.specs.Moves.{targets}
use Rattle.dap_threads.specs.Given.{AreNumbered, numbers_to}
use Rattle.dap_requests.proofs.choices.target_list.Given as goal

abbrev pub invariant-loop-number : goal.invariant-loop-number
invariant-loop-number l =
    record {
      told : l.list.lacks ≡ false → AreNumbered (map view l.list.made.items) (numbers_to l.number);
      within : l.number ≤ length (targets l.machine.checked l.branch l.events);
    }
