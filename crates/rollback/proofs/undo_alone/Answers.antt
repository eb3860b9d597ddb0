use Rattle.rollback.proofs.Rolling.{undone}
use Rattle.rollback.proofs.undo_alone.Goals as goal

pub returns : goal.returns
returns c =
    undone c.args.machine.now c.undo-undone.new.self c.args.ticket c.undo-undone.result c.requires.live c.requires.alone c.undo-undone.ensures.answers
    c.undo-undone.ensures.system c.undo-undone.ensures.marked
