use denote.Param.Send.{sendable}
use Rattle.locked_execution.proofs.Crossing.{desk_send, desk_sync}
use Rattle.locked_execution.proofs.shared.Shared.run_workers.Goals as goal

pub run_workers-requires-send-D : goal.run_workers-requires-send-D
run_workers-requires-send-D = search (desk_send, sendable)

pub run_workers-requires-sync-D : goal.run_workers-requires-sync-D
run_workers-requires-sync-D = search (desk_sync, sendable)
