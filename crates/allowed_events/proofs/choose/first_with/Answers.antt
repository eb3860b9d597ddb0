use Rattle.allowed_events.proofs.FirstChosen.{chosen-here, chosen-nowhere}
use Rattle.allowed_events.proofs.choose.first_with.Goals as goal

pub returns-in-Some : goal.returns-in-Some
returns-in-Some c = λ S ready.
    chosen-here S c.args.choice.now _ _ _ c.in-Some.index c.swap_remove.result ready c.into_vec-events.ensures c.as_slice.ensures.value c.in-Some.ensures
    c.swap_remove.ensures.value

pub returns : goal.returns
returns c = λ S ready.
    chosen-nowhere S c.args.choice.now _ _ _ ready c.into_vec-events.ensures c.as_slice.ensures.value c.in-None.ensures
