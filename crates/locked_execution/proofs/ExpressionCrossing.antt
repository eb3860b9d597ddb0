-- Expressions, commands and their code may cross threads.
use denote.Param.Send.{IsSend, IsSync, sendable}
use denote.Param.SendFields.{as_row_send, as_row_sync}
use Rattle.std.proofs.Crossing as crossing
use Rattle.std.proofs.option.Option.TheSendSync as option
use Rattle.std.proofs.sync.Arc.TheSendSync as arc
use Rattle.std.proofs.boxed.Box.TheSendSync as box
use Rattle.std.proofs.vec.Vec.TheSendSync as vec
use Rattle.syntax.proofs.boxed.Boxed.TheSendSync as boxed
use Rattle.syntax.proofs.items.Items.TheSendSync as items
use Rattle.syntax.proofs.shared.Shared.TheSendSync as shared
use Rattle.system.proofs.expression.Operator.TheSendSync as operator
use Rattle.system.proofs.expression.Use.TheSendSync as use'
use Rattle.value.proofs.Comparison.TheSendSync as comparison
use Rattle.value.proofs.Value.TheSendSync as value
use Rattle.value.proofs.width.Width.TheSendSync as width
use Rattle.system.proofs.expression.Expression.TheLaws.TheKnot as expressionKnot
use Rattle.system.proofs.command.Action.TheLaws.TheKnot as commandKnot
use Rattle.process_tree.proofs.code.Code.TheLaws.TheKnot as codeKnot
use Rattle.system.specs.contracts.expression.Expression as expression
use Rattle.system.specs.contracts.command.Command as command
use Rattle.process_tree.specs.contracts.code.Code as code

pub ruleset basics = (crossing.crosses, operator.the_field_send, operator.the_send, operator.the_field_sync, operator.the_sync, use'.the_field_send, use'.the_send, use'.the_field_sync, use'.the_sync, comparison.the_field_send, comparison.the_send, comparison.the_field_sync, comparison.the_sync, value.the_send, value.the_sync, width.the_send, width.the_sync, option.the_field_send, option.the_send, option.the_field_sync, option.the_sync, boxed.the_send, boxed.the_sync, items.the_send, items.the_sync, shared.the_send, shared.the_sync, arc.the_send, arc.the_sync, box.the_sync, vec.the_sync, sendable)

pub expression_field_send : IsSend (expression.the_field).row
expression_field_send = search (expressionKnot.crosses, basics) depth 60 fits 20000

pub expression_field_sync : IsSync (expression.the_field).row
expression_field_sync = search (expressionKnot.crosses, basics) depth 60 fits 20000

pub expression_send : IsSend expression.the_row
expression_send = as_row_send expression.the_field expression_field_send

pub expression_sync : IsSync expression.the_row
expression_sync = as_row_sync expression.the_field expression_field_sync

pub command_field_send : IsSend (command.the_field).row
command_field_send = search (commandKnot.crosses, expression_field_send, basics) depth 60 fits 20000

pub command_field_sync : IsSync (command.the_field).row
command_field_sync = search (commandKnot.crosses, expression_field_sync, basics) depth 60 fits 20000

pub code_field_send : IsSend (code.the_field).row
code_field_send = search (codeKnot.crosses_both, expression_field_send, expression_send, expression_field_sync, expression_sync, basics) depth 60 fits 20000

pub code_field_sync : IsSync (code.the_field).row
code_field_sync = search (codeKnot.crosses_both, expression_field_send, expression_send, expression_field_sync, expression_sync, basics) depth 60 fits 20000

pub command_send : IsSend command.the_row
command_send = as_row_send command.the_field command_field_send

pub command_sync : IsSync command.the_row
command_sync = as_row_sync command.the_field command_field_sync

pub code_send : IsSend code.the_row
code_send = as_row_send code.the_field code_field_send

pub code_sync : IsSync code.the_row
code_sync = as_row_sync code.the_field code_field_sync
