use Rattle.std.proofs.Common.{Some}
use Rattle.dependence.proofs.public.ListPlaces.{in-at}
use Rattle.dap_moves.proofs.Returning.{rolls_on, turn_out}
use Rattle.dap_moves.proofs.taken_back.roll_newest.Goals as goal

pub undo_or_roll-requires : goal.undo_or_roll-requires
undo_or_roll-requires c =
    let newest = c.in-Some.ensures.1 in
    (c.in-Some.event.now, in-at c.args.desk.now.machine.live c.in-Some.index (c.in-Some.ticket, c.in-Some.event.now) newest.there)

pub returns-in-Some-stop-clause-takes : goal.returns-in-Some-stop-clause-takes
returns-in-Some-stop-clause-takes c =
    turn_out c.args.branch c.args.marks.now.lines.now c.args.marks.now.watched.now c.args.desk.now c.undo_or_roll.new.desk c.machine.result.now
    c.args.desk.now.machine.next c.in-Some.index c.in-Some.ticket c.in-Some.event.now (Some c.in-Some-stop.ended) c.stop_at-stop.new.kept.items
    c.is_sound.ensures.execution.sound.rising c.in-Some.ensures.1 c.undo_or_roll.ensures.out c.machine.ensures c.in-Some-stop.ensures

pub returns-in-None-clause-takes : goal.returns-in-None-clause-takes
returns-in-None-clause-takes c =
    rolls_on c.args.branch c.args.below c.args.marks.now.lines.now c.args.marks.now.watched.now c.args.desk.now c.undo_or_roll.new.desk
    c.machine.result.now c.args.desk.now.machine.next c.in-Some.index c.in-Some.ticket c.in-Some.event.now c.stop_at-stop.new.kept.items
    c.is_sound.ensures.execution.sound.rising c.undo_or_roll.ensures.system c.in-Some.ensures c.undo_or_roll.ensures.out c.machine.ensures
    c.in-None.ensures
