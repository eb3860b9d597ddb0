use Rattle.std.proofs.Common.{ap, ◌∙◌, Err, refl}
use Rattle.std.proofs.lemmas.Result.{err_from_is_err_and}
use Rattle.debug_session.proofs.HoldingLemmas.{holding-start, owing-line, owing-done, holding-more, owing-endless}
use Rattle.debug_session.proofs.SessionLemmas.{progress-start, stopped-by-line, done-by-line, more-by-line, session-endless}
use Rattle.debug_session.proofs.answer.hold_answers.Goals as goal

pub loop-number-init : goal.loop-number-init
loop-number-init g c = (
  refl,
  progress-start c.args.script_state.now.desk.machine.checked c.args.script_state.now (g.R.CountedLines.remaining c.args.reader.now) (g.W.CountedWrite.contents c.args.writer.now)
      c.args.pending.now.items c.requires,
  refl,
  refl,
  holding-start g.R.CountedLines.buffered g.R.CountedLines.asked g.W.CountedWrite.contents g.W.CountedWrite.unsent g.W.CountedWrite.wanted c.args.script_state.now.desk.machine.checked c.args.script_state.now c.args.reader.now
      (g.R.CountedLines.remaining c.args.reader.now) c.args.writer.now c.args.pending.now.items c.requires,
)

pub returns-in_err-is_complete-clause-ends : goal.returns-in_err-is_complete-clause-ends
returns-in_err-is_complete-clause-ends g c =
    let p = err_from_is_err_and c.from_residual.result c.from_residual.ensures.1 in
    stopped-by-line g.R.CountedLines.remaining g.R.CountedLines.buffered g.R.CountedLines.asked g.W.CountedWrite.contents g.W.CountedWrite.unsent g.W.CountedWrite.wanted
    c.args.script_state.now.desk.machine.checked c.loop-number.script_state.desk.machine.checked c.args.script_state.now c.loop-number.script_state
    c.loop-number.reader c.answer_next.new.reader (g.R.CountedLines.remaining c.args.reader.now) (g.W.CountedWrite.contents c.args.writer.now) c.loop-number.writer c.answer_next.new.writer
    c.loop-number.pending.items c.answer_next.new.pending.items c.answer_next.new.line.items c.loop-number.number
    c.in_err-is_complete.field-0.0 c.from_residual.result c.loop-number.invariant.0 c.loop-number.invariant.1 c.in_err-is_complete.ensures.line (p.1 ∙ ap Err p.2)

pub returns-then-not-is_complete-clause-ends : goal.returns-then-not-is_complete-clause-ends
returns-then-not-is_complete-clause-ends g c =
    done-by-line g.R.CountedLines.remaining g.R.CountedLines.buffered g.R.CountedLines.asked g.W.CountedWrite.contents g.W.CountedWrite.unsent g.W.CountedWrite.wanted
    c.args.script_state.now.desk.machine.checked c.loop-number.script_state.desk.machine.checked c.args.script_state.now c.loop-number.script_state c.answer_next.new.script_state
    c.loop-number.reader c.answer_next.new.reader (g.R.CountedLines.remaining c.args.reader.now) (g.W.CountedWrite.contents c.args.writer.now) c.loop-number.writer c.answer_next.new.writer
    c.loop-number.pending.items c.answer_next.new.pending.items c.answer_next.new.line.items c.loop-number.number c.in_ok-is_complete.is_complete
    c.loop-number.invariant.0 c.if-not-is_complete.true c.loop-number.invariant.1 c.in_ok-is_complete.ensures.line

pub loop-number-preserved : goal.loop-number-preserved
loop-number-preserved g c = (
  c.answer_next.ensures.checked ∙ c.loop-number.invariant.0,
  more-by-line g.R.CountedLines.remaining g.R.CountedLines.buffered g.R.CountedLines.asked g.W.CountedWrite.contents g.W.CountedWrite.unsent g.W.CountedWrite.wanted
      c.args.script_state.now.desk.machine.checked c.loop-number.script_state.desk.machine.checked c.args.script_state.now c.loop-number.script_state c.answer_next.new.script_state
      c.loop-number.reader c.answer_next.new.reader (g.R.CountedLines.remaining c.args.reader.now) (g.W.CountedWrite.contents c.args.writer.now) c.loop-number.writer c.answer_next.new.writer
      c.loop-number.pending.items c.answer_next.new.pending.items c.answer_next.new.line.items c.loop-number.number c.in_ok-is_complete.is_complete
      c.loop-number.invariant.0 c.if-not-is_complete.false c.loop-number.invariant.1 c.in_ok-is_complete.ensures.line,
  c.in_ok-is_complete.ensures.read_failures ∙ c.loop-number.invariant.2,
  c.in_ok-is_complete.ensures.write_failures ∙ c.loop-number.invariant.3,
  holding-more g.R.CountedLines.buffered g.R.CountedLines.asked g.W.CountedWrite.contents g.W.CountedWrite.unsent g.W.CountedWrite.wanted g.R.CountedLines.remaining
      c.args.script_state.now.desk.machine.checked c.loop-number.script_state.desk.machine.checked c.args.script_state.now c.loop-number.script_state c.answer_next.new.script_state
      c.loop-number.reader c.answer_next.new.reader (g.R.CountedLines.remaining c.args.reader.now) c.args.writer.now c.loop-number.writer c.answer_next.new.writer
      c.loop-number.pending.items c.answer_next.new.pending.items c.answer_next.new.line.items c.in_ok-is_complete.is_complete
      c.loop-number.invariant.0 c.if-not-is_complete.false c.loop-number.invariant.4 c.in_ok-is_complete.ensures.line,
)

pub returns-clause-ends : goal.returns-clause-ends
returns-clause-ends g c =
    session-endless c.args.script_state.now.desk.machine.checked c.args.script_state.now c.loop-number.script_state
    (g.R.CountedLines.remaining c.args.reader.now) (g.R.CountedLines.remaining c.loop-number.reader)
    (g.W.CountedWrite.contents c.args.writer.now) (g.W.CountedWrite.contents c.loop-number.writer) c.loop-number.pending.items c.loop-number.number c.loop-number.invariant.1

pub returns-in_err-is_complete-clause-owes : goal.returns-in_err-is_complete-clause-owes
returns-in_err-is_complete-clause-owes g c =
    let p = err_from_is_err_and c.from_residual.result c.from_residual.ensures.1 in
    owing-line g.R.CountedLines.buffered g.R.CountedLines.asked g.W.CountedWrite.contents g.W.CountedWrite.unsent g.W.CountedWrite.wanted g.R.CountedLines.remaining
    c.args.script_state.now.desk.machine.checked c.loop-number.script_state.desk.machine.checked c.args.script_state.now c.loop-number.script_state
    c.loop-number.reader c.answer_next.new.reader (g.R.CountedLines.remaining c.args.reader.now) c.args.writer.now c.loop-number.writer c.answer_next.new.writer
    c.loop-number.pending.items c.answer_next.new.pending.items c.answer_next.new.line.items c.loop-number.number
    c.in_err-is_complete.field-0.0 c.from_residual.result c.loop-number.invariant.0 c.loop-number.invariant.4 c.in_err-is_complete.ensures.line (p.1 ∙ ap Err p.2)

pub returns-then-not-is_complete-clause-owes : goal.returns-then-not-is_complete-clause-owes
returns-then-not-is_complete-clause-owes g c =
    owing-done g.R.CountedLines.buffered g.R.CountedLines.asked g.W.CountedWrite.contents g.W.CountedWrite.unsent g.W.CountedWrite.wanted g.R.CountedLines.remaining
    c.args.script_state.now.desk.machine.checked c.loop-number.script_state.desk.machine.checked c.args.script_state.now c.loop-number.script_state c.answer_next.new.script_state
    c.loop-number.reader c.answer_next.new.reader (g.R.CountedLines.remaining c.args.reader.now) c.args.writer.now c.loop-number.writer c.answer_next.new.writer
    c.loop-number.pending.items c.answer_next.new.pending.items c.answer_next.new.line.items c.in_ok-is_complete.is_complete
    c.loop-number.invariant.0 c.if-not-is_complete.true c.loop-number.invariant.4 c.in_ok-is_complete.ensures.line

pub returns-clause-owes : goal.returns-clause-owes
returns-clause-owes g c =
    owing-endless g.R.CountedLines.buffered g.R.CountedLines.asked g.W.CountedWrite.contents g.W.CountedWrite.unsent g.W.CountedWrite.wanted c.args.script_state.now.desk.machine.checked c.args.script_state.now c.loop-number.script_state
    c.loop-number.reader (g.R.CountedLines.remaining c.args.reader.now) (g.R.CountedLines.remaining c.loop-number.reader)
    c.args.writer.now c.loop-number.writer c.loop-number.pending.items c.loop-number.invariant.4
