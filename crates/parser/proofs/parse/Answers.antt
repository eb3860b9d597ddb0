use Rattle.parser.proofs.Answered.{answers_description, answers_fault, answers_every_description, answers_every_fault}
use Rattle.parser.proofs.parse.Goals as goal

pub returns-clause-description : goal.returns-clause-description
returns-clause-description c = answers_description c.args.tokens.now _ c.answer.ensures

pub returns-clause-fault : goal.returns-clause-fault
returns-clause-fault c = answers_fault c.args.tokens.now _ c.answer.ensures

pub returns-clause-every_description : goal.returns-clause-every_description
returns-clause-every_description c = answers_every_description c.args.tokens.now _ c.answer.ensures

pub returns-clause-every_fault : goal.returns-clause-every_fault
returns-clause-every_fault c = answers_every_fault c.args.tokens.now _ c.answer.ensures
