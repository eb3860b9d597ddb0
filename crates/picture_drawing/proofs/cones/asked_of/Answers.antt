use Rattle.picture_drawing.proofs.cones.asked_of.Goals as goal

pub returns-in-Some : goal.returns-in-Some
returns-in-Some c = rw c.in-Some.is c.asked_event.ensures
