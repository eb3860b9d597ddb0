use Rattle.dependence.proofs.public.Taken.{taken_by_the_event, none_taken}
use Rattle.dependence.proofs.laws.arms_are_taken_once.Goals as goal

pub returns-clause-event : goal.returns-clause-event
returns-clause-event c = taken_by_the_event c.acting_once.ensures

pub returns-clause-none : goal.returns-clause-none
returns-clause-none c = none_taken
