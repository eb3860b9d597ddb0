use Rattle.std.proofs.Common.{refl}
use Rattle.dap_moves.specs.declared.run.Ended.{Ended}
use Rattle.dap_requests.proofs.Forward.{tells_ended}
use Rattle.dap_requests.proofs.moves.tell_ended.Goals as goal

pub returns-in-Nothing-clause-stops : goal.returns-in-Nothing-clause-stops
returns-in-Nothing-clause-stops c =
    tells_ended c.args.program.now.excepts c.args.answer.now c.tell_and_stop.new.answer c.args.branch c.unwrap_or.result Ended.Nothing c.args.ended
    c.in-Nothing.is c.unwrap_or.ensures c.tell_and_stop.ensures

pub returns-in-AtLine-clause-stops : goal.returns-in-AtLine-clause-stops
returns-in-AtLine-clause-stops c =
    tells_ended c.args.program.now.excepts c.args.answer.now c.stop_at_line.new.answer c.args.branch c.in-AtLine.action
    (Ended.AtLine c.in-AtLine.action c.in-AtLine.line) c.args.ended c.in-AtLine.is refl c.stop_at_line.ensures

pub returns-in-Watched-clause-stops : goal.returns-in-Watched-clause-stops
returns-in-Watched-clause-stops c =
    tells_ended c.args.program.now.excepts c.args.answer.now c.stop_watched.new.answer c.args.branch c.in-Watched.branch
    (Ended.Watched c.in-Watched.branch c.in-Watched.ticket) c.args.ended c.in-Watched.is refl c.stop_watched.ensures

pub returns-in-Most-clause-stops : goal.returns-in-Most-clause-stops
returns-in-Most-clause-stops c =
    tells_ended c.args.program.now.excepts c.args.answer.now c.stop_after_most.new.answer c.args.branch c.in-Most.branch
    (Ended.Most c.in-Most.branch) c.args.ended c.in-Most.is refl c.stop_after_most.ensures

pub returns-in-Refused-clause-stops : goal.returns-in-Refused-clause-stops
returns-in-Refused-clause-stops c =
    tells_ended c.args.program.now.excepts c.args.answer.now c.tell_refused.new.answer c.args.branch c.in-Refused.branch
    (Ended.Refused c.in-Refused.branch c.in-Refused.why) c.args.ended c.in-Refused.is refl c.tell_refused.ensures.stops
