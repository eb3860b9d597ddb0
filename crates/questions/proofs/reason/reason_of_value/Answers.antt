use Rattle.questions.proofs.WhyLemmas.{explains-no-writer, explains-value}
use Rattle.questions.proofs.reason.reason_of_value.Goals as goal

pub returns-in-Some : goal.returns-in-Some
returns-in-Some c =
    explains-value c.args.machine.now.checked c.args.machine.now.live c.live_events.result.now.live c.args.name.now
    c.args.variable c.args.all c.in_ok-found.found c.in-Some.past c.requires c.live_events.ensures.live c.in_ok-found.ensures
    c.in-Some.is

pub returns-in-None : goal.returns-in-None
returns-in-None c =
    explains-no-writer c.args.machine.now.checked c.args.machine.now.live c.live_events.result.now.live c.args.name.now
    c.args.variable c.args.all c.in_ok-found.found c.requires c.live_events.ensures.live c.in_ok-found.ensures c.in-None.is
