use Rattle.std.proofs.Common.{◌≡◌, refl}
use Rattle.debug_session.specs.ReplyText.{session_text}
use Rattle.debug_session.specs.declared.line.Line.{Line}
use Rattle.shell.proofs.OwnLemmas.{own-by, turned-own}
use Rattle.shell.specs.Lines.{SaidAsScript}
use Rattle.shell_desk.specs.declared.deed.Done.{Done}
use Rattle.shell.proofs.session.Session.answer_turn.Goals as goal

pub returns-clause-done : goal.returns-clause-done
returns-clause-done c = (Done.Rested, (refl, c.turn.ensures))

pub returns-clause-own : goal.returns-clause-own
returns-clause-own c =
    own-by (λ v. v.items) (λ t. t ≡ session_text c.args.session)
    (λ t. SaidAsScript c.args.setting.now.texts.source.now c.args.self.now.bench (Line.Session c.args.session) t c.turn.new.self.bench)
    c.write_session-own.result c.answered.result.own c.answered.ensures.own
    (turned-own c.args.setting.now.texts.source.now c.args.self.now.bench c.turn.new.self.bench c.args.session c.turn.ensures)
    c.write_session-own.ensures
