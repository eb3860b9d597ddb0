use Rattle.questions.proofs.WhyLemmas.{explains-no-event, explains-step}
use Rattle.questions.proofs.reason.reason_of_step.Goals as goal

pub returns-in-Some : goal.returns-in-Some
returns-in-Some c =
    explains-step c.args.machine.now.checked c.args.machine.now.live c.live_events.result.now.live c.args.subject.now
    c.args.ticket c.args.all c.in_ok-found.found c.in-Some.past c.requires.none c.requires.ticket c.live_events.ensures.live
    c.in_ok-found.ensures c.in-Some.is

pub returns-in-None : goal.returns-in-None
returns-in-None c =
    explains-no-event c.args.machine.now.checked c.args.machine.now.live c.live_events.result.now.live
    c.args.subject.now c.args.ticket c.args.all c.in_ok-found.found c.requires.none c.requires.ticket c.live_events.ensures.live
    c.in_ok-found.ensures c.in-None.is
