-- What a designer may rely on holds of every sound execution.
use Rattle.runs.proofs.public.ObjectLaws.{state-in-every-order, step-then-undo, undoes-exactly, needed-exactly, rolls-exactly, rolls-value-exactly}
use Rattle.runs.proofs.public.SomeReplies.{steps-exactly, rolls-where-live, rolls-value-where-written}
use Rattle.machine.specs.Headline.{HeadlineOfSound}

pub headline : HeadlineOfSound
headline o s =
    let state = state-in-every-order o s in
    record {
      sound = s;
      one_state = state.0;
      every_order = state.1;
      steps = steps-exactly o s;
      restores = step-then-undo o s;
      undoes = undoes-exactly o s;
      needed = needed-exactly o s;
      rolled = rolls-where-live o s;
      rolls = rolls-exactly o s;
      value_rolled = rolls-value-where-written o s;
      rolls_value = rolls-value-exactly o;
    }
