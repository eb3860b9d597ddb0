use Rattle.std.proofs.Common.{◌≤◌, ◌-◌}
use Rattle.local_actions.proofs.public.Begun.{begun-row}
use Rattle.local_actions.proofs.public.Endings.{CameTo}
use Rattle.local_actions.proofs.over.is_reached.Given as goal

abbrev pub invariant-children : goal.invariant-children
invariant-children l = (l.number ≤ l.child) × CameTo l.number (begun-row l.begun l.row)

abbrev pub decreases-children : goal.decreases-children
decreases-children l = l.child - l.number
