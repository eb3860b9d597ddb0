use Rattle.shell.specs.Asking.{IsWordWith}
use Rattle.shell.specs.internal.Parts.{Begun, WordMeans, WordsAsk}
use Rattle.shell.proofs.LeavesLemmas.{leaves-by, no-word-asks, rest-leaves, word-asks, word-begins}
use Rattle.shell.proofs.session.Session.answer_words.Goals as goal

pub returns-in-Some : goal.returns-in-Some
returns-in-Some g c =
    leaves-by (WordMeans c.in-Some.word c.cut_at_space.result.1.now) (WordsAsk c.args.text.now)
    (Begun c.in-Some.word c.cut_at_space.result.1.now) (IsWordWith c.args.text.now) (g.H.Host.files c.args.host.now)
    c.args.setting.now.texts.source.now c.args.setting.now.texts.stimulus.now
    c.args.self.now.bench c.answer_word.new.self.bench c.answer_word.result.outcome
    (word-asks c.args.text.now c.cut_at_space.result.0.now c.cut_at_space.result.1.now c.in-Some.word c.cut_at_space.ensures
    c.in-Some.ensures)
    (word-begins c.args.text.now c.cut_at_space.result.0.now c.cut_at_space.result.1.now c.in-Some.word c.cut_at_space.ensures
    c.in-Some.ensures)
    c.answer_word.ensures

pub returns-in-None : goal.returns-in-None
returns-in-None g c =
    rest-leaves (WordsAsk c.args.text.now) (IsWordWith c.args.text.now) (g.H.Host.files c.args.host.now)
    c.args.setting.now.texts.source.now c.args.setting.now.texts.stimulus.now
    c.args.self.now.bench c.answer_mistake.result.outcome c.answer_mistake.ensures
    (no-word-asks c.args.text.now c.cut_at_space.result.0.now c.cut_at_space.result.1.now c.cut_at_space.ensures c.in-None.ensures)
