use Rattle.shell.proofs.LeavesLemmas.{number-leaves, number-owns, words-owns}
use Rattle.shell.proofs.session.Session.answer_shell.Goals as goal

pub returns-in-Some-clause-leaves : goal.returns-in-Some-clause-leaves
returns-in-Some-clause-leaves g c =
    number-leaves (g.H.Host.files c.args.host.now) c.args.setting.now.texts.source.now c.args.setting.now.texts.stimulus.now
    c.args.text.now c.args.self.now.bench c.answer_number.new.self.bench c.in-Some.number c.answer_number.result.outcome
    c.in-Some.ensures c.answer_number.ensures.done

pub returns-in-Some-clause-own : goal.returns-in-Some-clause-own
returns-in-Some-clause-own g c =
    number-owns (λ v. v.items) c.args.setting.now.texts.source.now c.args.self.now.bench c.answer_number.new.self.bench
    c.args.text.now c.in-Some.number c.answer_number.result.own c.in-Some.ensures c.answer_number.ensures.own

pub returns-in-None-clause-own : goal.returns-in-None-clause-own
returns-in-None-clause-own g c =
    words-owns (λ v. v.items) c.args.setting.now.texts.source.now c.args.self.now.bench c.answer_words.new.self.bench
    c.args.text.now c.answer_words.result.own c.in-None.ensures
