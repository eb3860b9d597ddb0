use Rattle.std.proofs.Common.{None, refl, subst, sym}
use Rattle.serde_json.specs.View.{view}
use Rattle.dap_messages.specs.Notes.{IsDone}
use Rattle.dap_messages.specs.declared.answer.Outcome.{Outcome}
use Rattle.dap_messages.specs.declared.kind.Kind.{Kind}
use Rattle.dap_messages.specs.declared.told.Told.{Told}
use Rattle.dap_requests.proofs.public.Saying.{tells_one}
use Rattle.dap.proofs.Going.{answers_as, sets_as, sets_none, shows_as, tells_as, tells_none}
use Rattle.dap.proofs.Stopping.{tells_last}
use Rattle.dap.proofs.dispatch.look.Goals as goal

pub returns-in-SetBreakpoints-clause-sets : goal.returns-in-SetBreakpoints-clause-sets
returns-in-SetBreakpoints-clause-sets c =
    sets_as c.args.request.now Kind.SetBreakpoints c.args.machine.now.checked.main c.args.program.now c.set_lines.new.program
    c.set_lines.new.answer c.in-SetBreakpoints.is c.set_lines.ensures.sets

pub returns-in-SetBreakpoints-clause-tells : goal.returns-in-SetBreakpoints-clause-tells
returns-in-SetBreakpoints-clause-tells c =
    tells_as c.args.request.now.kind Kind.SetBreakpoints (view c.args.request.now.arguments) c.args.program.now c.set_lines.new.program
    c.args.answer.now c.set_lines.new.answer c.in-SetBreakpoints.is c.set_lines.ensures.tells

pub returns-in-SetDataBreakpoints-clause-sets : goal.returns-in-SetDataBreakpoints-clause-sets
returns-in-SetDataBreakpoints-clause-sets c =
    sets_as c.args.request.now Kind.SetDataBreakpoints c.args.machine.now.checked.main c.args.program.now c.watch.new.program
    c.watch.new.answer c.in-SetDataBreakpoints.is c.watch.ensures.sets

pub returns-in-SetDataBreakpoints-clause-tells : goal.returns-in-SetDataBreakpoints-clause-tells
returns-in-SetDataBreakpoints-clause-tells c =
    tells_as c.args.request.now.kind Kind.SetDataBreakpoints (view c.args.request.now.arguments) c.args.program.now c.watch.new.program c.args.answer.now c.watch.new.answer c.in-SetDataBreakpoints.is
    c.watch.ensures.quiet

pub returns-in-SetExceptionBreakpoints-clause-sets : goal.returns-in-SetExceptionBreakpoints-clause-sets
returns-in-SetExceptionBreakpoints-clause-sets c =
    sets_as c.args.request.now Kind.SetExceptionBreakpoints c.args.machine.now.checked.main c.args.program.now c.filter.new.program
    c.filter.new.answer c.in-SetExceptionBreakpoints.is c.filter.ensures.sets

pub returns-in-SetExceptionBreakpoints-clause-tells : goal.returns-in-SetExceptionBreakpoints-clause-tells
returns-in-SetExceptionBreakpoints-clause-tells c =
    tells_as c.args.request.now.kind Kind.SetExceptionBreakpoints (view c.args.request.now.arguments) c.args.program.now c.filter.new.program c.args.answer.now c.filter.new.answer c.in-SetExceptionBreakpoints.is
    (c.filter.ensures.quiet, c.filter.ensures.answers)

pub returns-in-Terminate-clause-sets : goal.returns-in-Terminate-clause-sets
returns-in-Terminate-clause-sets c =
    sets_as c.args.request.now Kind.Terminate c.args.machine.now.checked.main c.args.program.now c.terminate.new.program
    c.terminate.new.answer c.in-Terminate.is
    (c.terminate.ensures.over, tells_last c.args.answer.now c.terminate.new.answer Told.Terminated None refl c.terminate.ensures.tells)

pub returns-in-Terminate-clause-tells : goal.returns-in-Terminate-clause-tells
returns-in-Terminate-clause-tells c =
    tells_as c.args.request.now.kind Kind.Terminate (view c.args.request.now.arguments) c.args.program.now c.terminate.new.program c.args.answer.now c.terminate.new.answer c.in-Terminate.is (
      tells_one c.args.answer.now c.terminate.new.answer Told.Terminated None c.terminate.ensures.tells,
      λ done. subst (λ (o : Outcome). IsDone o) (sym c.terminate.ensures.tells.outcome) done,
    )

pub returns-in-BreakpointLocations-clause-sets : goal.returns-in-BreakpointLocations-clause-sets
returns-in-BreakpointLocations-clause-sets c =
    sets_as c.args.request.now Kind.BreakpointLocations c.args.machine.now.checked.main c.args.program.now c.args.program.now
    c.locate.new.answer c.in-BreakpointLocations.is (refl, c.locate.ensures.located)

pub returns-in-BreakpointLocations-clause-tells : goal.returns-in-BreakpointLocations-clause-tells
returns-in-BreakpointLocations-clause-tells c =
    tells_as c.args.request.now.kind Kind.BreakpointLocations (view c.args.request.now.arguments) c.args.program.now c.args.program.now c.args.answer.now c.locate.new.answer c.in-BreakpointLocations.is
    c.locate.ensures.quiet

pub returns-in_default-clause-sets : goal.returns-in_default-clause-sets
returns-in_default-clause-sets c =
    sets_none c.args.request.now c.args.machine.now.checked.main c.args.program.now c.show.new.answer c.requires c.in_default.not-SetBreakpoints
    c.in_default.not-SetDataBreakpoints c.in_default.not-SetExceptionBreakpoints c.in_default.not-Terminate
    c.in_default.not-BreakpointLocations

pub returns-in_default-clause-tells : goal.returns-in_default-clause-tells
returns-in_default-clause-tells c =
    tells_none c.args.request.now.kind (view c.args.request.now.arguments) c.args.program.now c.args.program.now c.args.answer.now c.show.new.answer
    c.in_default.not-SetBreakpoints c.in_default.not-SetExceptionBreakpoints c.in_default.not-Terminate
    c.show.ensures.quiet

pub returns-in-SetBreakpoints-clause-answers : goal.returns-in-SetBreakpoints-clause-answers
returns-in-SetBreakpoints-clause-answers c =
    answers_as c.args.request.now.kind Kind.SetBreakpoints c.args.answer.now.outcome c.set_lines.new.answer.outcome c.in-SetBreakpoints.is tt

pub returns-in-SetDataBreakpoints-clause-answers : goal.returns-in-SetDataBreakpoints-clause-answers
returns-in-SetDataBreakpoints-clause-answers c =
    answers_as c.args.request.now.kind Kind.SetDataBreakpoints c.args.answer.now.outcome c.watch.new.answer.outcome c.in-SetDataBreakpoints.is tt

pub returns-in-SetExceptionBreakpoints-clause-answers : goal.returns-in-SetExceptionBreakpoints-clause-answers
returns-in-SetExceptionBreakpoints-clause-answers c =
    answers_as c.args.request.now.kind Kind.SetExceptionBreakpoints c.args.answer.now.outcome c.filter.new.answer.outcome c.in-SetExceptionBreakpoints.is tt

pub returns-in-Terminate-clause-answers : goal.returns-in-Terminate-clause-answers
returns-in-Terminate-clause-answers c =
    answers_as c.args.request.now.kind Kind.Terminate c.args.answer.now.outcome c.terminate.new.answer.outcome c.in-Terminate.is tt

pub returns-in-BreakpointLocations-clause-answers : goal.returns-in-BreakpointLocations-clause-answers
returns-in-BreakpointLocations-clause-answers c =
    answers_as c.args.request.now.kind Kind.BreakpointLocations c.args.answer.now.outcome c.locate.new.answer.outcome c.in-BreakpointLocations.is tt

pub returns-in_default-clause-answers : goal.returns-in_default-clause-answers
returns-in_default-clause-answers c = c.show.ensures.answers

pub returns-in-SetBreakpoints-clause-shows : goal.returns-in-SetBreakpoints-clause-shows
returns-in-SetBreakpoints-clause-shows c =
    shows_as c.args.request.now.kind Kind.SetBreakpoints c.args.machine.now c.args.program.now.index c.args.program.now.sight
    (view c.args.request.now.arguments) c.set_lines.new.answer c.in-SetBreakpoints.is tt

pub returns-in-SetDataBreakpoints-clause-shows : goal.returns-in-SetDataBreakpoints-clause-shows
returns-in-SetDataBreakpoints-clause-shows c =
    shows_as c.args.request.now.kind Kind.SetDataBreakpoints c.args.machine.now c.args.program.now.index c.args.program.now.sight
    (view c.args.request.now.arguments) c.watch.new.answer c.in-SetDataBreakpoints.is tt

pub returns-in-SetExceptionBreakpoints-clause-shows : goal.returns-in-SetExceptionBreakpoints-clause-shows
returns-in-SetExceptionBreakpoints-clause-shows c =
    shows_as c.args.request.now.kind Kind.SetExceptionBreakpoints c.args.machine.now c.args.program.now.index c.args.program.now.sight
    (view c.args.request.now.arguments) c.filter.new.answer c.in-SetExceptionBreakpoints.is tt

pub returns-in-Terminate-clause-shows : goal.returns-in-Terminate-clause-shows
returns-in-Terminate-clause-shows c =
    shows_as c.args.request.now.kind Kind.Terminate c.args.machine.now c.args.program.now.index c.args.program.now.sight
    (view c.args.request.now.arguments) c.terminate.new.answer c.in-Terminate.is tt

pub returns-in-BreakpointLocations-clause-shows : goal.returns-in-BreakpointLocations-clause-shows
returns-in-BreakpointLocations-clause-shows c =
    shows_as c.args.request.now.kind Kind.BreakpointLocations c.args.machine.now c.args.program.now.index c.args.program.now.sight
    (view c.args.request.now.arguments) c.locate.new.answer c.in-BreakpointLocations.is tt

pub returns-in_default-clause-shows : goal.returns-in_default-clause-shows
returns-in_default-clause-shows c = c.show.ensures.shows
