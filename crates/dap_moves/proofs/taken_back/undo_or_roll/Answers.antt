use Rattle.dap_moves.proofs.GoingOut.{out_rolled, out_undone}
use Rattle.dap_moves.proofs.taken_back.undo_or_roll.Goals as goal
use Rattle.dap_moves.proofs.taken_back.undo_or_roll.Goals.{in-Refused, in_default}

pub returns-clause-out : goal.returns-clause-out
returns-clause-out c = elim c.match-undo.branch [
  | in-Refused w ↦
      out_rolled c.args.desk.now c.undo.new.desk w.roll.new.desk c.match-undo.desk c.args.ticket c.undo.result w.in-Refused.field-0 c.requires
      c.undo.ensures.answers w.in-Refused.is w.roll.ensures.rolled w.desk-is
  | in_default w ↦
      out_undone c.args.desk.now c.undo.new.desk c.match-undo.desk c.args.ticket c.undo.result c.requires c.undo.ensures.answers
      w.in_default.not-Refused w.desk-is
]
