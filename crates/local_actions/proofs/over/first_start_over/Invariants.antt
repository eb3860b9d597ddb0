use Rattle.std.proofs.Common.{◌≤◌, ◌-◌, map}
use Rattle.process_tree.specs.Proc.{all_started}
use Rattle.process_tree.specs.Translation.{row_of}
use Rattle.process_tree.specs.View.{code_view}
use Rattle.local_actions.proofs.public.Endings.{CameTo}
use Rattle.local_actions.proofs.over.first_start_over.Given as goal

abbrev pub invariant-children : goal.invariant-children
invariant-children l = (l.number ≤ l.count) × CameTo l.number (all_started (row_of (map code_view l.codes)))

abbrev pub decreases-children : goal.decreases-children
decreases-children l = l.count - l.number
