-- Lists of commands of sessions: what holds of those of the execution holds of them.
use Rattle.runs.proofs.public.ObjectLaws.{stays-over-lists, tickets-grow}
use Rattle.locked_execution.specs.AtDesk.{execution}
use Rattle.locked_execution.specs.Replies.{SessionsKeepSound, SessionsGrow}
use Rattle.locked_execution.proofs.public.BridgeLaws.{commands_of, are-on-execution}

pub sessions-keep-sound : SessionsKeepSound
sessions-keep-sound d d' commands replies sound h =
    let there = are-on-execution d d' commands replies h in
    stays-over-lists (execution d) (execution d') (commands_of commands replies) there.0 sound there.2

pub sessions-grow : SessionsGrow
sessions-grow d d' commands replies sound h =
    let there = are-on-execution d d' commands replies h in
    tickets-grow (execution d) (execution d') (commands_of commands replies) there.0 sound there.2
