-- One choice takes one event.
use Rattle.runs.proofs.public.FromOpening.{one_choice}
use Rattle.runs.proofs.laws.one_choice.Goals as goal

pub returns : goal.returns
returns c = one_choice
