-- What a designer may rely on after any commands by any sessions.
use Rattle.runs.specs.Object.{Object}
use Rattle.runs.specs.Sound.{Sound}
use Rattle.runs.specs.ObjectLaws.{OfSound, OneState, InEveryOrder, StepsExactly, StepThenUndo, UndoesExactly, NeededExactly, RollsWhereLive, RollsExactly, RollsValueWhereWritten, RollsValueExactly}

pub record Headline (o : Object) : Type 0 where
  pub sound : Sound o
  -- the state is what the live events give in every order that respects dependence
  pub one_state : OneState o
  pub every_order : InEveryOrder o
  -- a step is taken exactly where an event with the choice is allowed, within the limits
  pub steps : StepsExactly o
  -- its undo restores the live events and the state
  pub restores : StepThenUndo o
  -- an event is undone exactly where no other live event depends on it
  pub undoes : UndoesExactly o
  -- else the first that does is named
  pub needed : NeededExactly o
  -- an event is rolled back exactly where it is live
  pub rolled : RollsWhereLive o
  -- that leaves exactly the events that do not depend on it, and they run
  pub rolls : RollsExactly o
  -- a variable is rolled back exactly where a live event wrote it
  pub value_rolled : RollsValueWhereWritten o
  -- that is the rollback of the last event that wrote it
  pub rolls_value : RollsValueExactly o

-- it holds of every sound execution
abbrev pub HeadlineOfSound : Type 0
HeadlineOfSound = OfSound Headline
