use Rattle.std.proofs.Common.{refl}
use Rattle.dap_messages.specs.declared.kind.Kind.{Kind}
use Rattle.dap.proofs.Going.{answers_as, answers_unknown}
use Rattle.dap.proofs.Refusing.{refused_by}
use Rattle.dap.proofs.dispatch.tell_other.Goals as goal

pub returns-in-ExceptionInfo : goal.returns-in-ExceptionInfo
returns-in-ExceptionInfo c =
    answers_as c.args.request.now.kind Kind.ExceptionInfo c.args.answer.now.outcome c.exception_info.new.answer.outcome c.in-ExceptionInfo.is tt

pub returns-in-Completions : goal.returns-in-Completions
returns-in-Completions c =
    answers_as c.args.request.now.kind Kind.Completions c.args.answer.now.outcome c.completions.new.answer.outcome c.in-Completions.is tt

pub returns-in-Attach : goal.returns-in-Attach
returns-in-Attach c =
    answers_as c.args.request.now.kind Kind.Attach c.args.answer.now.outcome c.attach.new.answer.outcome c.in-Attach.is
    c.attach.ensures.number

pub returns-in-Launch : goal.returns-in-Launch
returns-in-Launch c =
    answers_as c.args.request.now.kind Kind.Launch c.args.answer.now.outcome c.refuse.new.self.outcome c.in-Launch.is
    (refused_by c.args.answer.now c.refuse.new.self c.refuse.new.self 107 107 _ refl c.refuse.ensures.says refl)

pub returns-in-Disconnect : goal.returns-in-Disconnect
returns-in-Disconnect c =
    answers_as c.args.request.now.kind Kind.Disconnect c.args.answer.now.outcome c.did.new.self.outcome c.in-Disconnect.is c.did.ensures.done

pub returns-in_default : goal.returns-in_default
returns-in_default c =
    answers_unknown c.args.request.now.kind c.args.answer.now.outcome c.unknown.new.answer.outcome c.in_default.not-Attach
    c.in_default.not-Launch c.in_default.not-Disconnect c.unknown.ensures.number
