use Rattle.serde_json.specs.View.{view}
use Rattle.dap_messages.specs.declared.kind.Kind.{Kind}
use Rattle.dap.proofs.Going.{answers_as, shows_as, shows_none}
use Rattle.dap.proofs.dispatch.tell.Goals as goal

pub returns-in-Threads-clause-answers : goal.returns-in-Threads-clause-answers
returns-in-Threads-clause-answers c =
    answers_as c.args.request.now.kind Kind.Threads c.args.answer.now.outcome c.threads.new.answer.outcome c.in-Threads.is tt

pub returns-in-StackTrace-clause-answers : goal.returns-in-StackTrace-clause-answers
returns-in-StackTrace-clause-answers c =
    answers_as c.args.request.now.kind Kind.StackTrace c.args.answer.now.outcome c.stack_trace.new.answer.outcome c.in-StackTrace.is tt

pub returns-in-Scopes-clause-answers : goal.returns-in-Scopes-clause-answers
returns-in-Scopes-clause-answers c =
    answers_as c.args.request.now.kind Kind.Scopes c.args.answer.now.outcome c.scopes.new.answer.outcome c.in-Scopes.is tt

pub returns-in-Variables-clause-answers : goal.returns-in-Variables-clause-answers
returns-in-Variables-clause-answers c =
    answers_as c.args.request.now.kind Kind.Variables c.args.answer.now.outcome c.variables.new.answer.outcome c.in-Variables.is tt

pub returns-in-StepInTargets-clause-answers : goal.returns-in-StepInTargets-clause-answers
returns-in-StepInTargets-clause-answers c =
    answers_as c.args.request.now.kind Kind.StepInTargets c.args.answer.now.outcome c.targets.new.answer.outcome c.in-StepInTargets.is tt

pub returns-in-DataBreakpointInfo-clause-answers : goal.returns-in-DataBreakpointInfo-clause-answers
returns-in-DataBreakpointInfo-clause-answers c =
    answers_as c.args.request.now.kind Kind.DataBreakpointInfo c.args.answer.now.outcome c.data_info.new.answer.outcome c.in-DataBreakpointInfo.is tt

pub returns-in-Threads-clause-shows : goal.returns-in-Threads-clause-shows
returns-in-Threads-clause-shows c =
    shows_as c.args.request.now.kind Kind.Threads c.args.machine.now c.args.program.now.index c.args.program.now.sight
    (view c.args.request.now.arguments) c.threads.new.answer c.in-Threads.is c.threads.ensures

pub returns-in-StackTrace-clause-shows : goal.returns-in-StackTrace-clause-shows
returns-in-StackTrace-clause-shows c =
    shows_as c.args.request.now.kind Kind.StackTrace c.args.machine.now c.args.program.now.index c.args.program.now.sight
    (view c.args.request.now.arguments) c.stack_trace.new.answer c.in-StackTrace.is c.stack_trace.ensures

pub returns-in-Scopes-clause-shows : goal.returns-in-Scopes-clause-shows
returns-in-Scopes-clause-shows c =
    shows_as c.args.request.now.kind Kind.Scopes c.args.machine.now c.args.program.now.index c.args.program.now.sight
    (view c.args.request.now.arguments) c.scopes.new.answer c.in-Scopes.is c.scopes.ensures

pub returns-in-Variables-clause-shows : goal.returns-in-Variables-clause-shows
returns-in-Variables-clause-shows c =
    shows_as c.args.request.now.kind Kind.Variables c.args.machine.now c.args.program.now.index c.args.program.now.sight
    (view c.args.request.now.arguments) c.variables.new.answer c.in-Variables.is c.variables.ensures

pub returns-in-StepInTargets-clause-shows : goal.returns-in-StepInTargets-clause-shows
returns-in-StepInTargets-clause-shows c =
    shows_as c.args.request.now.kind Kind.StepInTargets c.args.machine.now c.args.program.now.index c.args.program.now.sight
    (view c.args.request.now.arguments) c.targets.new.answer c.in-StepInTargets.is c.targets.ensures

pub returns-in-DataBreakpointInfo-clause-shows : goal.returns-in-DataBreakpointInfo-clause-shows
returns-in-DataBreakpointInfo-clause-shows c =
    shows_as c.args.request.now.kind Kind.DataBreakpointInfo c.args.machine.now c.args.program.now.index c.args.program.now.sight
    (view c.args.request.now.arguments) c.data_info.new.answer c.in-DataBreakpointInfo.is tt

pub returns-in_default-clause-shows : goal.returns-in_default-clause-shows
returns-in_default-clause-shows c =
    shows_none c.args.request.now.kind c.args.machine.now c.args.program.now.index c.args.program.now.sight (view c.args.request.now.arguments)
    c.tell_other.new.answer c.in_default.not-Threads c.in_default.not-StackTrace c.in_default.not-Scopes c.in_default.not-Variables c.in_default.not-StepInTargets
