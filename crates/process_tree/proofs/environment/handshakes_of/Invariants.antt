use Rattle.std.proofs.Common.{◌≡◌, ◌≤◌, ◌-◌, map}
use Rattle.std.specs.Prelude.{replicate}
use Rattle.process_tree.specs.Code.{syncing, may_be_held}
use Rattle.process_tree.specs.View.{code_view}
use Rattle.process_tree.proofs.environment.handshakes_of.Given as goal

abbrev pub invariant-loop-made : goal.invariant-loop-made
invariant-loop-made l = (l.made ≤ l.count) × (map code_view l.codes ≡ replicate l.made (may_be_held (syncing l.channel)))

abbrev pub decreases-loop-made : goal.decreases-loop-made
decreases-loop-made l = l.count - l.made
