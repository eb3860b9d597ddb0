use Rattle.shell_desk.proofs.DeedLemmas.{newest-at}
use Rattle.shell_desk.proofs.back.newest_of.Goals as goal

pub returns : goal.returns
returns c =
    newest-at c.args.machine.now.live c.live_events-live.result.now.live c.len-count.result c.in-Some.ticket c.in-Some.field-0-1.now
    c.len-count.ensures c.live_events-live.ensures.live c.in-Some.ensures
