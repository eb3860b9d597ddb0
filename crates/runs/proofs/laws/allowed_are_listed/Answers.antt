-- The list of allowed events has them all, and no others.
use Rattle.runs.proofs.public.FromOpening.{allowed_are_listed, allowed_where_formed}
use Rattle.runs.proofs.laws.allowed_are_listed.Goals as goal

pub returns : goal.returns
returns c = record { run = allowed_are_listed; formed = allowed_where_formed }
