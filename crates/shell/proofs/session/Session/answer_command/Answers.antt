use Rattle.std.proofs.Common.{◌≡◌, refl, ap, ◌∙◌}
use Rattle.debug_session.specs.ReplyText.{answer_text}
use Rattle.debug_session.specs.declared.line.Line.{Line}
use Rattle.shell.proofs.OwnLemmas.{own-by, asked-own}
use Rattle.shell.specs.Lines.{SaidAsScript}
use Rattle.shell_desk.specs.declared.deed.Done.{Done}
use Rattle.shell.proofs.session.Session.answer_command.Goals as goal

pub returns-clause-done : goal.returns-clause-done
returns-clause-done c = (Done.Told c.ask-reply.result, (c.ask-reply.result, c.ask-reply.ensures.asked, refl))

pub returns-clause-own : goal.returns-clause-own
returns-clause-own c =
    own-by (λ v. v.items) (λ t. t ≡ answer_text c.checked-checked.result.now c.args.command.now c.ask-reply.result)
    (λ t. SaidAsScript c.args.setting.now.texts.source.now c.args.self.now.bench (Line.Asked c.args.command.now) t c.ask-reply.new.self)
    c.write_answer-own.result c.answered.result.own c.answered.ensures.own
    (asked-own c.args.setting.now.texts.source.now c.args.self.now.bench c.ask-reply.new.self c.checked-checked.result.now
    c.args.command.now c.ask-reply.result c.ask-reply.ensures.asked
    (c.checked-checked.ensures ∙ ap (λ m. m.checked) (c.machine.ensures ∙ ap (λ d. d.machine) c.desk.ensures)) c.ask-reply.ensures.system)
    c.write_answer-own.ensures
