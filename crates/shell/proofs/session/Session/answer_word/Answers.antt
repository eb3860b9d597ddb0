use Rattle.shell.proofs.LeavesLemmas.{word-other}
use Rattle.shell.proofs.session.Session.answer_word.Goals as goal

pub returns-in-None : goal.returns-in-None
returns-in-None g c =
    word-other (g.H.Host.files c.args.host.now) c.args.setting.now.texts.source.now c.args.setting.now.texts.stimulus.now
    c.args.self.now.bench c.answer_other.new.self.bench c.args.word c.args.rest.now c.answer_other.result.outcome
    c.in-None.ensures c.answer_other.ensures
