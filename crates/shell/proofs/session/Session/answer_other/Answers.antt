use Rattle.shell.proofs.LeavesLemmas.{told-alone, other-load, other-quit, other-save, other-save-over, other-script, other-script-over, other-told}
use Rattle.shell.proofs.session.Session.answer_other.Goals as goal

pub returns-in-Load : goal.returns-in-Load
returns-in-Load g c =
    other-load (g.H.Host.files c.args.host.now) c.args.setting.now.texts.source.now c.args.setting.now.texts.stimulus.now
    c.args.self.now.bench c.load.new.self.bench c.args.word c.args.rest.now c.load.result.outcome c.in-Load.is c.load.ensures

pub returns-in-Quit : goal.returns-in-Quit
returns-in-Quit g c =
    other-quit (g.H.Host.files c.args.host.now) c.args.setting.now.texts.source.now c.args.setting.now.texts.stimulus.now
    c.args.self.now.bench c.args.word c.args.rest.now c.quit.result.outcome c.in-Quit.is c.quit.ensures

pub returns-in-Save : goal.returns-in-Save
returns-in-Save g c =
    other-save (g.H.Host.files c.args.host.now) c.args.setting.now.texts.source.now c.args.setting.now.texts.stimulus.now
    c.args.self.now.bench c.args.word c.args.rest.now c.save.result.outcome c.in-Save.is c.save.ensures

pub returns-in-SaveOver : goal.returns-in-SaveOver
returns-in-SaveOver g c =
    other-save-over (g.H.Host.files c.args.host.now) c.args.setting.now.texts.source.now c.args.setting.now.texts.stimulus.now
    c.args.self.now.bench c.args.word c.args.rest.now c.save-in-SaveOver.result.outcome c.in-SaveOver.is
    c.save-in-SaveOver.ensures

pub returns-in-Script : goal.returns-in-Script
returns-in-Script g c =
    other-script (g.H.Host.files c.args.host.now) c.args.setting.now.texts.source.now c.args.setting.now.texts.stimulus.now
    c.args.self.now.bench c.args.word c.args.self.now.notes.script.items c.args.rest.now c.save_script.result.outcome
    c.in-Script.is c.save_script.ensures

pub returns-in-ScriptOver : goal.returns-in-ScriptOver
returns-in-ScriptOver g c =
    other-script-over (g.H.Host.files c.args.host.now) c.args.setting.now.texts.source.now
    c.args.setting.now.texts.stimulus.now c.args.self.now.bench c.args.word c.args.self.now.notes.script.items c.args.rest.now
    c.save_script-in-ScriptOver.result.outcome c.in-ScriptOver.is c.save_script-in-ScriptOver.ensures

pub returns-in_default : goal.returns-in_default
returns-in_default g c =
    other-told (g.H.Host.files c.args.host.now) c.args.setting.now.texts.source.now c.args.setting.now.texts.stimulus.now
    c.args.self.now.bench c.args.word c.args.rest.now c.answer_question.result.outcome
    (told-alone c.args.word c.args.rest.now c.in_default.not-Save c.in_default.not-SaveOver c.in_default.not-Load
    c.in_default.not-Script c.in_default.not-ScriptOver c.in_default.not-Quit) c.answer_question.ensures
