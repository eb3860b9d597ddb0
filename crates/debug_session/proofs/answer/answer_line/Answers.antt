use Rattle.std.proofs.Common.{ap, ◌∙◌, Err}
use Rattle.std.proofs.lemmas.Result.{err_from_is_err_and}
use Rattle.debug_session.specs.Transcript.{LineAnswered}
use Rattle.debug_session.specs.internal.Telling.{told_text}
use Rattle.debug_session.proofs.PieceLemmas.{line-unsaid, stops-with, unread-with}
use Rattle.debug_session.proofs.answer.answer_line.Goals as goal

pub returns-in_err-said-clause-answered : goal.returns-in_err-said-clause-answered
returns-in_err-said-clause-answered c =
    let p = err_from_is_err_and c.from_residual.result c.from_residual.ensures.1 in
    stops-with (λ _. LineAnswered c.args.script_state.now.desk.machine.checked c.args.script_state.now c.args.line.now (told_text c.args.answer.now) c.args.script_state.now)
    c.args.script_state.now.desk.machine.checked c.args.line.now c.args.number c.in_err-said.field-0.0 c.from_residual.result (p.1 ∙ ap Err p.2)
    (line-unsaid c.args.script_state.now.desk.machine.checked c.checked.result.now c.args.line.now c.args.number c.in_err-said.field-0.0 c.checked.ensures
    c.in_err-said.ensures.fault)

pub returns-in_err-said-clause-untold : goal.returns-in_err-said-clause-untold
returns-in_err-said-clause-untold c =
    let p = err_from_is_err_and c.from_residual.result c.from_residual.ensures.1 in
    unread-with c.args.script_state.now.desk.machine.checked c.checked.result.now c.args.script_state.now c.args.line.now c.args.number c.in_err-said.field-0.0
    c.from_residual.result (p.1 ∙ ap Err p.2) c.checked.ensures c.in_err-said.ensures.fault
