use Rattle.std.proofs.Common.{ap, ◌∙◌, Err, arith}
use Rattle.std.proofs.lemmas.Result.{err_from_is_err_and}
use Rattle.debug_session.proofs.EndLemmas.{ended-by-device, ended-put, ended-unput, quiet-unwritten}
use Rattle.debug_session.proofs.HoldingLemmas.{owing-unput}
use Rattle.debug_session.proofs.answer.answer_lines.Goals as goal

pub returns-then-has_failed-clause-ends : goal.returns-then-has_failed-clause-ends
returns-then-has_failed-clause-ends g c =
    ended-by-device c.args.script_state.now.desk.machine.checked c.args.script_state.now
    (g.R.CountedLines.remaining c.args.reader.now) (g.R.CountedLines.remaining c.hold_answers-ended.new.reader)
    (g.W.CountedWrite.contents c.args.writer.now) (g.W.CountedWrite.contents c.hold_answers-ended.new.writer)
    c.hold_answers-ended.new.pending.items c.hold_answers-ended.result c.if-has_failed.ensures c.hold_answers-ended.ensures.ends

pub returns-in_err-put_out-clause-ends : goal.returns-in_err-put_out-clause-ends
returns-in_err-put_out-clause-ends g c =
    let p = err_from_is_err_and c.from_residual.result c.from_residual.ensures.1 in
    ended-unput c.args.script_state.now.desk.machine.checked c.args.script_state.now
    (g.R.CountedLines.remaining c.args.reader.now) (g.R.CountedLines.remaining c.hold_answers-ended.new.reader)
    (g.W.CountedWrite.contents c.args.writer.now) (g.W.CountedWrite.contents c.hold_answers-ended.new.writer) (g.W.CountedWrite.contents c.put_out.new.writer)
    c.hold_answers-ended.new.pending.items c.hold_answers-ended.result c.from_residual.result c.in_err-put_out.field-0.0 c.hold_answers-ended.ensures.ends
    c.if-has_failed.ensures c.in_err-put_out.ensures.some c.in_err-put_out.ensures.bytes (p.1 ∙ ap Err p.2)

pub returns-clause-ends : goal.returns-clause-ends
returns-clause-ends g c =
    ended-put c.args.script_state.now.desk.machine.checked c.args.script_state.now
    (g.R.CountedLines.remaining c.args.reader.now) (g.R.CountedLines.remaining c.hold_answers-ended.new.reader)
    (g.W.CountedWrite.contents c.args.writer.now) (g.W.CountedWrite.contents c.hold_answers-ended.new.writer) (g.W.CountedWrite.contents c.put_out.new.writer)
    c.hold_answers-ended.new.pending.items c.put_out.new.pending.items c.hold_answers-ended.result c.hold_answers-ended.ensures.ends
    c.if-has_failed.ensures c.in_ok-put_out.ensures.bytes

pub returns-then-has_failed-clause-held_back : goal.returns-then-has_failed-clause-held_back
returns-then-has_failed-clause-held_back g c = c.hold_answers-ended.ensures.owes.0

pub returns-in_err-put_out-clause-held_back : goal.returns-in_err-put_out-clause-held_back
returns-in_err-put_out-clause-held_back g c h =
    owing-unput g.R.CountedLines.buffered g.R.CountedLines.asked g.W.CountedWrite.contents g.W.CountedWrite.unsent g.W.CountedWrite.wanted c.args.script_state.now.desk.machine.checked c.args.script_state.now c.hold_answers-ended.new.reader
    (g.R.CountedLines.remaining c.args.reader.now) (g.R.CountedLines.remaining c.hold_answers-ended.new.reader)
    c.args.writer.now c.hold_answers-ended.new.writer c.put_out.new.writer
    c.hold_answers-ended.new.pending.items c.hold_answers-ended.result c.hold_answers-ended.ensures.owes c.if-has_failed.ensures
    c.in_err-put_out.ensures.short c.in_err-put_out.ensures.some

pub returns-clause-held_back : goal.returns-clause-held_back
returns-clause-held_back g c h = absurd (quiet-unwritten c.hold_answers-ended.result c.if-has_failed.ensures h)

pub returns-then-has_failed-clause-sent : goal.returns-then-has_failed-clause-sent
returns-then-has_failed-clause-sent g c = c.hold_answers-ended.ensures.owes.2

pub returns-in_err-put_out-clause-sent : goal.returns-in_err-put_out-clause-sent
returns-in_err-put_out-clause-sent g c not =
    let p = err_from_is_err_and c.from_residual.result c.from_residual.ensures.1 in
    absurd (not (p.1 ∙ ap Err (p.2 ∙ c.in_err-put_out.ensures.bytes.2.0)))

pub returns-clause-sent : goal.returns-clause-sent
returns-clause-sent g c not = omega (arith, c.in_ok-put_out.ensures.short, c.hold_answers-ended.ensures.owes.2 not)
