use Rattle.shell_desk.proofs.NumberLemmas.{told-answers}
use Rattle.shell_desk.proofs.ask.answered.Goals as goal

pub returns-clause-answers : goal.returns-clause-answers
returns-clause-answers g c =
    told-answers c.args.desk.now c.perform-reply.new.self c.args.session c.args.command.now c.perform-reply.result
    c.numbers_told-numbers.new.reply c.perform-reply.ensures.answers c.numbers_told-numbers.ensures.told
