use Rattle.std.proofs.Common.{true, Err, inl, inr, subst, ap, ◌∙◌}
use Rattle.std.proofs.lemmas.Result.{err_from_is_err_and}
use Rattle.debug_session.specs.Counting.{WritesShort}
use Rattle.debug_session.specs.Transcript.{LineAnswered}
use Rattle.debug_session.specs.internal.OneLine.{TakesLine}
use Rattle.debug_session.specs.internal.Owing.{BreaksAnswering}
use Rattle.debug_session.specs.internal.Telling.{told_text}
use Rattle.debug_session.proofs.HeldLemmas.{err-with, held-anew, held-here}
use Rattle.debug_session.proofs.answer.answer_next.Goals as goal

pub returns-in_err-hold-clause-line : goal.returns-in_err-hold-clause-line
returns-in_err-hold-clause-line g c =
    let p = err_from_is_err_and c.from_residual-in_err-hold.result c.from_residual-in_err-hold.ensures.1 in
    err-with _ _ c.from_residual-in_err-hold.result c.in_err-hold.field-0.0 (p.1 ∙ ap Err p.2)
    (inr (inr (inr (
      c.in_ok-is_complete.is_complete,
      told_text c.answer_line.new.answer,
      c.answer_line.new.script_state,
      c.in_ok-is_complete.ensures.line.2,
      subst (λ t. LineAnswered c.args.script_state.now.desk.machine.checked c.args.script_state.now t (told_text c.answer_line.new.answer) c.answer_line.new.script_state)
          c.as_slice.ensures.value c.in_ok-answer_line.ensures.answered,
      (
        c.in_err-hold.ensures.held.0,
        (
          c.ask_line.new.writer,
          c.in_ok-is_complete.ensures.line.1,
          subst (WritesShort g.W.CountedWrite.contents g.W.CountedWrite.unsent g.W.CountedWrite.wanted c.ask_line.new.writer c.hold.new.writer)
              c.as_slice-then-not-is_at_hand.ensures c.in_err-hold.ensures.held.1,
        ),
      ),
    ))))

pub returns-then-not-is_at_hand-clause-line : goal.returns-then-not-is_at_hand-clause-line
returns-then-not-is_at_hand-clause-line g c = record {
  answer = told_text c.answer_line.new.answer;
  answered = subst (λ t. LineAnswered c.args.script_state.now.desk.machine.checked c.args.script_state.now t (told_text c.answer_line.new.answer) c.answer_line.new.script_state)
      c.as_slice.ensures.value c.in_ok-answer_line.ensures.answered;
  takes = c.in_ok-is_complete.ensures.line.2;
  held = inr (held-anew g.W.CountedWrite.contents g.W.CountedWrite.unsent c.args.writer.now c.ask_line.new.writer c.hold.new.writer
      c.args.pending.now.items c.hold.new.pending.items c.as_slice-then-not-is_at_hand.result.now (told_text c.answer_line.new.answer)
      c.as_slice-then-not-is_at_hand.ensures c.in_ok-is_complete.ensures.line.1 c.in_ok-hold.ensures.held);
}

pub returns-in_err-take_answered-clause-line : goal.returns-in_err-take_answered-clause-line
returns-in_err-take_answered-clause-line g c =
    let p = err_from_is_err_and c.from_residual-in_err-take_answered.result c.from_residual-in_err-take_answered.ensures.1 in
    err-with _ _ c.from_residual-in_err-take_answered.result c.in_err-take_answered.field-0.0 (p.1 ∙ ap Err p.2)
    (elim c.in_err-take_answered.ensures.taken [
      | inl untaken ↦ inl untaken
      | inr unwritten ↦ inr (inr (inr (
        true,
        told_text c.answer_line-2.new.answer,
        c.answer_line-2.new.script_state,
        subst (λ t. TakesLine (g.R.CountedLines.remaining c.args.reader.now) (g.R.CountedLines.remaining c.take_answered.new.reader) t true) c.as_slice-3.ensures.value unwritten.0,
        subst (λ t. LineAnswered c.args.script_state.now.desk.machine.checked c.args.script_state.now t (told_text c.answer_line-2.new.answer) c.answer_line-2.new.script_state)
            c.as_slice-2.ensures.value c.in_default.ensures.answered,
        subst (λ t. BreaksAnswering g.W.CountedWrite.contents g.W.CountedWrite.unsent g.W.CountedWrite.wanted c.args.writer.now c.take_answered.new.writer c.args.pending.now.items t
            c.in_err-take_answered.field-0.0) c.as_slice-4.ensures unwritten.1,
      )))
    ])

pub returns-clause-line : goal.returns-clause-line
returns-clause-line g c = record {
  answer = told_text c.answer_line-2.new.answer;
  answered = subst (λ t. LineAnswered c.args.script_state.now.desk.machine.checked c.args.script_state.now t (told_text c.answer_line-2.new.answer) c.answer_line-2.new.script_state)
      c.as_slice-2.ensures.value c.in_default.ensures.answered;
  takes = subst (λ t. TakesLine (g.R.CountedLines.remaining c.args.reader.now) (g.R.CountedLines.remaining c.take_answered.new.reader) t true) c.as_slice-3.ensures.value
      c.in_ok-take_answered.ensures.taken.0;
  held = held-here g.R.CountedLines.buffered g.R.CountedLines.asked g.W.CountedWrite.contents g.W.CountedWrite.unsent c.args.reader.now c.take_answered.new.reader
      c.args.writer.now c.take_answered.new.writer c.args.pending.now.items c.take_answered.new.pending.items c.as_slice-3.result.now c.look_at_line.new.line.items
      c.as_slice-4.result.now (told_text c.answer_line-2.new.answer) c.as_slice-3.ensures.value c.as_slice-4.ensures c.in_ok-take_answered.ensures.taken.1;
}
