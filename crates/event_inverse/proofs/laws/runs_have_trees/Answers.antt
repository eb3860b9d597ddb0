-- What runs grows, and one more event.
use Rattle.event_inverse.proofs.public.FromOpening.{runs-have-trees, one-more}
use Rattle.event_inverse.proofs.public.TidyRuns.{runs-are-tidy}
use Rattle.event_inverse.proofs.laws.runs_have_trees.Goals as goal

pub returns : goal.returns
returns c = record { run = runs-have-trees; tidy = runs-are-tidy; more = one-more }
