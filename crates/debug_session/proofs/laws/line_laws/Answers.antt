-- A line says one thing.
use Rattle.debug_session.proofs.OneThingLemmas.{one-thing}
use Rattle.debug_session.proofs.laws.line_laws.Goals as goal

pub returns : goal.returns
returns c = one-thing
