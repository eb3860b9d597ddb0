use Rattle.shell_desk.proofs.AgainLemmas.{again-lacks, again-one}
use Rattle.shell_desk.proofs.DeedLemmas.{told-false, told-true}
use Rattle.shell_desk.proofs.loaded.break_on.Goals as goal

pub returns-then-lacks : goal.returns-then-lacks
returns-then-lacks g c =
    again-lacks c.args.before.now c.args.desk.now c.args.session c.args.line
    (told-true _ c.lacks.result c.lacks.ensures c.if-lacks.true)

pub returns : goal.returns
returns g c =
    again-one c.args.before.now c.args.desk.now c.perform-reply.new.self c.args.session c.args.line c.perform-reply.result
    (told-false _ c.lacks.result c.lacks.ensures c.if-lacks.false) c.perform-reply.ensures.answers
