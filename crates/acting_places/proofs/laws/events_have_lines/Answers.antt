use Rattle.acting_places.proofs.Lined.{events-lined, allowed-lined}
use Rattle.acting_places.proofs.laws.events_have_lines.Goals as goal

pub returns-clause-taken : goal.returns-clause-taken
returns-clause-taken c = events-lined c.arms_are_taken_once.ensures.event c.line_law.ensures

pub returns-clause-allowed : goal.returns-clause-allowed
returns-clause-allowed c = allowed-lined c.arms_are_taken_once.ensures.event c.line_law.ensures
