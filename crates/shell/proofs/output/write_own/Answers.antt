use Rattle.std.proofs.Common.{List, ℕ, subst}
use Rattle.devices.specs.Counting.{device}
use Rattle.shell.proofs.TakenLemmas.{tells-read, tells-unread}
use Rattle.shell.proofs.output.write_own.Goals as goal

pub returns-in-Unread-clause-bytes : goal.returns-in-Unread-clause-bytes
returns-in-Unread-clause-bytes g c =
    tells-unread (λ text. text.items) c.args.own.now c.args.outcome c.unread_told.result.now
    (g.W.Write.contents (device c.args.out.now)) (g.W.Write.contents (device c.write_some.new.out)) c.write_some.result
    c.in-Unread.is c.unread_told.ensures c.write_some.ensures.bytes

pub returns-in_default-clause-bytes : goal.returns-in_default-clause-bytes
returns-in_default-clause-bytes g c =
    tells-read (λ text. text.items) c.args.own.now c.args.outcome (g.W.Write.contents (device c.args.out.now))
    (g.W.Write.contents (device c.write_read.new.out)) c.write_read.result c.in_default.not-Unread c.write_read.ensures.bytes
