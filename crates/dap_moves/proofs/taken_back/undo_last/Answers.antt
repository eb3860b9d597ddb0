use Rattle.dap_moves.proofs.GoingOut.{last_undone}
use Rattle.dap_moves.proofs.Returning.{turn_undone}
use Rattle.dap_moves.proofs.taken_back.undo_last.Goals as goal

pub returns-in-Undone-clause-takes : goal.returns-in-Undone-clause-takes
returns-in-Undone-clause-takes c =
    turn_undone c.args.marks.now.lines.now c.args.marks.now.watched.now c.args.desk.now c.undo.new.desk c.machine.result.now c.in-Some.ticket
    c.in-Undone.ticket c.in-Undone.event c.stop_at.result c.stop_at.new.kept.items c.in-Some.ensures c.in-Undone.ensures.answers
    c.machine.ensures c.stop_at.ensures

pub returns : goal.returns
returns c =
    let undone =
    last_undone c.args.desk.now c.undo.new.desk c.args.desk.now.machine.next c.in-Some.ticket c.undo.result c.is_sound.ensures.execution.sound.rising
    c.in-Some.ensures c.undo.ensures.answers in
    absurd (c.in_default-undo.not-Undone c.in-Some.ticket undone.0 undone.1)
