use Rattle.devices.specs.Counting.{device}
use Rattle.shell.proofs.TakenLemmas.{headed-on}
use Rattle.shell.proofs.output.write_headed.Goals as goal

pub returns-in-Ok-clause-bytes : goal.returns-in-Ok-clause-bytes
returns-in-Ok-clause-bytes g c =
    headed-on c.args.outcome c.head.result.now (g.W.Write.contents (device c.args.out.now))
    (g.W.Write.contents (device c.write_some.new.out)) (g.W.Write.contents (device c.write_text.new.out))
    c.write_text.result c.head.ensures c.in-Ok.ensures.bytes c.write_text.ensures.bytes
