-- Workers.
use Rattle.locked_execution.proofs.CrewLaws.{live-are-stepped}
use Rattle.locked_execution.proofs.laws.crew_laws.Goals as goal

pub returns : goal.returns
returns c = record { live = live-are-stepped }
