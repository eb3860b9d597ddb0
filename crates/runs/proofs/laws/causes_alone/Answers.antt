-- An event without direct dependents causes itself alone.
use Rattle.runs.proofs.Rollback.{causes-alone}
use Rattle.runs.proofs.laws.causes_alone.Goals as goal

pub returns : goal.returns
returns c = causes-alone
