use Rattle.dap.proofs.Going.{begins_goes, typed_goes}
use Rattle.dap.proofs.dispatch.ask.Goals as goal

pub returns-in-ConfigurationDone : goal.returns-in-ConfigurationDone
returns-in-ConfigurationDone c =
    begins_goes c.args.launched.now c.begin_once.new.launched c.args.request.now c.args.answer.now c.begin_once.new.answer
    c.in-ConfigurationDone.is c.requires.over c.begin_once.ensures.led c.begin_once.ensures.begins

pub returns-in_default : goal.returns-in_default
returns-in_default c =
    typed_goes c.args.launched.now c.args.request.now c.args.answer.now c.evaluate.new.answer c.evaluate.new.desk c.evaluate.new.memo
    c.requires.asks c.in_default.not-ConfigurationDone c.requires.over c.requires.waits c.evaluate.ensures.led c.evaluate.ensures.looks
    c.evaluate.ensures.does c.evaluate.ensures.refused
