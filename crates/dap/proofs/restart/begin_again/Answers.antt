use Rattle.dap.proofs.Keeping.{goes_anew_by, tells_anew}
use Rattle.dap.proofs.Stopping.{begins_once}
use Rattle.dap.proofs.restart.begin_again.Goals as goal

pub returns : goal.returns
returns c =
    goes_anew_by c.args.launched.now c.args.anew c.take_over-is_lost.new.launched c.begin.new.launched c.tell_changed.new.program
    c.args.placing.asked c.args.placing.stops c.args.answer.now c.tell_changed.new.answer c.begin.new.answer c.take_over-is_lost.ensures.set
    c.requires.placed c.take_over-is_lost.ensures.memo c.take_over-is_lost.ensures.desk c.tell_changed.ensures.set c.begin.ensures.led
    c.begin.ensures.begins c.begin.ensures.sets
    (begins_once _ _ _ _ c.tell_changed.new.answer c.begin.new.answer c.begin.ensures.begins)
    (tells_anew (record c.take_over-is_lost.new.launched.program { asked = c.args.placing.asked; stops = c.args.placing.stops })
    c.args.placing.moved.items c.args.placing.shown.items c.args.answer.now c.tell_unwatched.new.answer
    c.tell_changed.new.answer c.requires.shown c.tell_unwatched.ensures c.tell_changed.ensures.tells c.tell_changed.ensures.same.0)
