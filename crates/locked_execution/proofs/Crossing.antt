-- A desk may cross threads.
use denote.Param.Send.{IsSend, IsSync, sendable}
use Rattle.machine.proofs.breaks.Breaks.TheSendSync as breaks
use Rattle.locked_execution.proofs.MachineCrossing.{machine_send, machine_sync}
use Rattle.locked_execution.specs.contracts.desk.Desk as desk

pub desk_send : IsSend desk.the_row
desk_send = search (machine_send, breaks.the_send, sendable) depth 60 fits 20000

pub desk_sync : IsSync desk.the_row
desk_sync = search (machine_sync, breaks.the_sync, sendable) depth 60 fits 20000
