use Rattle.std.proofs.Common.{sym, ap}
use Rattle.runs.specs.Refusals.{refusal_number}
use Rattle.locked_execution.specs.declared.command.Reply.{Reply}
use Rattle.dap_messages.specs.declared.told.Stop.{Stop}
use Rattle.dap_requests.specs.Forth.{stop_of}
use Rattle.dap_requests.proofs.Forward.{stop_other, tells_as}
use Rattle.dap_requests.proofs.moves.tell_took.Goals as goal

pub returns-in-Refused-clause-stops : goal.returns-in-Refused-clause-stops
returns-in-Refused-clause-stops c =
    tells_as c.args.answer.now c.tell_refused.new.answer (Stop.Refused (refusal_number c.in-Refused.why) c.args.program.now.excepts) (stop_of c.args.program.now.excepts c.args.reply.now) c.args.branch
    (ap (λ (x : Reply). stop_of c.args.program.now.excepts x) (sym c.in-Refused.is)) c.tell_refused.ensures.stops

pub returns-in_default-clause-stops : goal.returns-in_default-clause-stops
returns-in_default-clause-stops c =
    tells_as c.args.answer.now c.tell_taken.new.answer Stop.Stepped (stop_of c.args.program.now.excepts c.args.reply.now) c.args.branch
    (sym (stop_other c.args.program.now.excepts c.args.reply.now c.in_default.not-Refused)) c.tell_taken.ensures
