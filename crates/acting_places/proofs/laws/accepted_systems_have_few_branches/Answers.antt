use Rattle.acting_places.proofs.FewBranches.{accepted-few}
use Rattle.acting_places.proofs.laws.accepted_systems_have_few_branches.Goals as goal

pub returns : goal.returns
returns c = accepted-few
