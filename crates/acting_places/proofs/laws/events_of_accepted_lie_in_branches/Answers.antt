use Rattle.acting_places.proofs.FewBranches.{accepted-lie}
use Rattle.acting_places.proofs.laws.events_of_accepted_lie_in_branches.Goals as goal

pub returns : goal.returns
returns c = accepted-lie c.events_lie_in_branches.ensures c.accepted_systems_have_few_branches.ensures
