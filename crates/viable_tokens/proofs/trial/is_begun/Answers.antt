use Rattle.viable_tokens.proofs.Ends.{hopeless}
use Rattle.viable_tokens.proofs.trial.is_begun.Goals as goal

pub returns : goal.returns
returns c = hopeless _ _ _ c.in-Some.is c.in_ok-not_memory.ensures c.refusal_within.ensures
