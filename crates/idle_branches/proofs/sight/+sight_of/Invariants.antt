use Rattle.std.proofs.Common.{◌-◌}
use Rattle.local_actions.proofs.public.Begun.{begun-row}
use Rattle.local_actions.proofs.public.Endings.{CameTo}
use Rattle.idle_branches.proofs.sight.+sight_of.Given as goal

-- children that were passed are finished
abbrev pub invariant-sight_of_sequence-children : goal.invariant-sight_of_sequence-children
invariant-sight_of_sequence-children l = CameTo l.number (begun-row l.begun l.row)

abbrev pub decreases-sight_of_sequence-children : goal.decreases-sight_of_sequence-children
decreases-sight_of_sequence-children l = l.end - l.number
