use Rattle.command_words.proofs.WordLemmas.{asked_by}
use Rattle.command_words.proofs.asked.request_of.Goals as goal

pub returns-in-check : goal.returns-in-check
returns-in-check c =
    asked_by c.args.words.now c.args.name.now _ c.check_asked.result c.in-check.is c.check_asked.ensures

pub returns-in-debug : goal.returns-in-debug
returns-in-debug c =
    asked_by c.args.words.now c.args.name.now _ c.debug_asked.result c.in-debug.is c.debug_asked.ensures

pub returns-in-replay : goal.returns-in-replay
returns-in-replay c =
    asked_by c.args.words.now c.args.name.now _ c.replay_asked.result c.in-replay.is c.replay_asked.ensures

pub returns-in-work : goal.returns-in-work
returns-in-work c =
    asked_by c.args.words.now c.args.name.now _ c.work_asked.result c.in-work.is c.work_asked.ensures

pub returns-in-shell : goal.returns-in-shell
returns-in-shell c =
    asked_by c.args.words.now c.args.name.now _ c.shell_asked.result c.in-shell.is c.shell_asked.ensures

pub returns-in-explain : goal.returns-in-explain
returns-in-explain c =
    asked_by c.args.words.now c.args.name.now _ c.explain_asked.result c.in-explain.is c.explain_asked.ensures

pub returns-in-outline : goal.returns-in-outline
returns-in-outline c =
    asked_by c.args.words.now c.args.name.now _ c.outline_asked.result c.in-outline.is c.outline_asked.ensures

pub returns-in-waiting : goal.returns-in-waiting
returns-in-waiting c =
    asked_by c.args.words.now c.args.name.now _ c.waiting_asked.result c.in-waiting.is c.waiting_asked.ensures

pub returns-in-why : goal.returns-in-why
returns-in-why c =
    asked_by c.args.words.now c.args.name.now _ c.why_asked.result c.in-why.is c.why_asked.ensures

pub returns-in-picture : goal.returns-in-picture
returns-in-picture c =
    asked_by c.args.words.now c.args.name.now _ c.picture_asked.result c.in-picture.is c.picture_asked.ensures
