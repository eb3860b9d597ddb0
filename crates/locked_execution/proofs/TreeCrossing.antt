-- Process trees may cross threads, by their parts.
use denote.Param.Send.{IsSend, IsSync}
use denote.Param.SendFields.{as_row_send, as_row_sync}
use Rattle.locked_execution.proofs.ExpressionCrossing.{basics, expression_field_send, expression_field_sync, expression_send, expression_sync}
use Rattle.process_tree.proofs.proc.Gate.TheLaws.TheKnot as procKnot
use Rattle.process_tree.proofs.code.Code.TheLaws.TheKnot as codeKnot
use Rattle.process_tree.specs.contracts.proc.Proc as proc
use Rattle.process_tree.specs.contracts.code.Once as once
use Rattle.process_tree.specs.contracts.code.Sender as sender
use Rattle.process_tree.specs.contracts.code.Repeat as repeat
use Rattle.process_tree.specs.contracts.code.Decide as decide
use Rattle.process_tree.specs.contracts.code.Await as await
use Rattle.process_tree.specs.contracts.code.Row as codes

pub ruleset exprs = (expression_field_send, expression_send, expression_field_sync, expression_sync)

pub once_field_send : IsSend (once.the_field).row
once_field_send = search (exprs, basics) depth 60 fits 20000

pub once_send : IsSend once.the_row
once_send = as_row_send once.the_field once_field_send

pub once_field_sync : IsSync (once.the_field).row
once_field_sync = search (exprs, basics) depth 60 fits 20000

pub once_sync : IsSync once.the_row
once_sync = as_row_sync once.the_field once_field_sync

pub sender_field_send : IsSend (sender.the_field).row
sender_field_send = search (exprs, basics) depth 60 fits 20000

pub sender_send : IsSend sender.the_row
sender_send = as_row_send sender.the_field sender_field_send

pub sender_field_sync : IsSync (sender.the_field).row
sender_field_sync = search (exprs, basics) depth 60 fits 20000

pub sender_sync : IsSync sender.the_row
sender_sync = as_row_sync sender.the_field sender_field_sync

pub repeat_field_send : IsSend (repeat.the_field).row
repeat_field_send = search (codeKnot.crosses_both, exprs, basics) depth 60 fits 20000

pub repeat_send : IsSend repeat.the_row
repeat_send = as_row_send repeat.the_field repeat_field_send

pub repeat_field_sync : IsSync (repeat.the_field).row
repeat_field_sync = search (codeKnot.crosses_both, exprs, basics) depth 60 fits 20000

pub repeat_sync : IsSync repeat.the_row
repeat_sync = as_row_sync repeat.the_field repeat_field_sync

pub decide_field_send : IsSend (decide.the_field).row
decide_field_send = search (codeKnot.crosses_both, exprs, basics) depth 60 fits 20000

pub decide_send : IsSend decide.the_row
decide_send = as_row_send decide.the_field decide_field_send

pub decide_field_sync : IsSync (decide.the_field).row
decide_field_sync = search (codeKnot.crosses_both, exprs, basics) depth 60 fits 20000

pub decide_sync : IsSync decide.the_row
decide_sync = as_row_sync decide.the_field decide_field_sync

pub await_field_send : IsSend (await.the_field).row
await_field_send = search (codeKnot.crosses_both, exprs, basics) depth 60 fits 20000

pub await_send : IsSend await.the_row
await_send = as_row_send await.the_field await_field_send

pub await_field_sync : IsSync (await.the_field).row
await_field_sync = search (codeKnot.crosses_both, exprs, basics) depth 60 fits 20000

pub await_sync : IsSync await.the_row
await_sync = as_row_sync await.the_field await_field_sync

pub codes_field_send : IsSend (codes.the_field).row
codes_field_send = search (codeKnot.crosses_both, exprs, basics) depth 60 fits 20000

pub codes_send : IsSend codes.the_row
codes_send = as_row_send codes.the_field codes_field_send

pub codes_field_sync : IsSync (codes.the_field).row
codes_field_sync = search (codeKnot.crosses_both, exprs, basics) depth 60 fits 20000

pub codes_sync : IsSync codes.the_row
codes_sync = as_row_sync codes.the_field codes_field_sync

pub ruleset parts = (once_send, once_field_send, once_sync, once_field_sync, sender_send, sender_field_send, sender_sync, sender_field_sync, repeat_send, repeat_field_send, repeat_sync, repeat_field_sync, decide_send, decide_field_send, decide_sync, decide_field_sync, await_send, await_field_send, await_sync, await_field_sync, codes_send, codes_field_send, codes_sync, codes_field_sync)

pub proc_field_send : IsSend (proc.the_field).row
proc_field_send = search (procKnot.crosses, parts, basics) depth 60 fits 20000

pub proc_send : IsSend proc.the_row
proc_send = as_row_send proc.the_field proc_field_send

pub proc_field_sync : IsSync (proc.the_field).row
proc_field_sync = search (procKnot.crosses, parts, basics) depth 60 fits 20000

pub proc_sync : IsSync proc.the_row
proc_sync = as_row_sync proc.the_field proc_field_sync
