use Rattle.std.proofs.Common.{ap, ◌∙◌, Err, inr}
use Rattle.std.proofs.lemmas.Result.{err_from_is_err_and}
use Rattle.debug_session.proofs.HoldingLemmas.{one-fault, refused-unwritten, begun-holding}
use Rattle.debug_session.proofs.SessionLemmas.{begun}
use Rattle.debug_session.specs.declared.fault.Fault.{Fault}
use Rattle.debug_session.proofs.whole.debug_leaving.Goals as goal

pub returns-clause-debugged : goal.returns-clause-debugged
returns-clause-debugged g c =
    let begins = c.in_ok-script_state.ensures.script_state in
    inr (
      begins.0,
      begins.1,
      begun c.in_ok-script_state.script_state begins.0 c.args.source.now (g.R.CountedLines.remaining c.args.reader.now)
          (g.R.CountedLines.remaining c.answer_lines-ended.new.reader) (g.W.CountedWrite.contents c.args.writer.now)
          (g.W.CountedWrite.contents c.answer_lines-ended.new.writer) c.answer_lines-ended.result begins.2 c.answer_lines-ended.ensures.ends,
    )

pub returns-in_err-script_state-clause-held_back : goal.returns-in_err-script_state-clause-held_back
returns-in_err-script_state-clause-held_back g c h =
    let p = err_from_is_err_and c.from_residual.result c.from_residual.ensures.1 in
    absurd (refused-unwritten c.args.source.now c.args.stimulus.now c.in_err-script_state.field-0.0 c.in_err-script_state.ensures.fault
    (one-fault c.from_residual.result c.in_err-script_state.field-0.0 Fault.WriteFailed (p.1 ∙ ap Err p.2) h))

pub returns-clause-held_back : goal.returns-clause-held_back
returns-clause-held_back g c h =
    let begins = c.in_ok-script_state.ensures.script_state in (
      begins.0,
      begins.1,
      begun-holding g.R.CountedLines.buffered g.R.CountedLines.asked g.W.CountedWrite.contents g.W.CountedWrite.unsent g.W.CountedWrite.wanted c.in_ok-script_state.script_state begins.0 c.args.source.now c.answer_lines-ended.new.reader
          (g.R.CountedLines.remaining c.args.reader.now) (g.R.CountedLines.remaining c.answer_lines-ended.new.reader)
          c.args.writer.now c.answer_lines-ended.new.writer begins.2 (c.answer_lines-ended.ensures.held_back h),
    )
