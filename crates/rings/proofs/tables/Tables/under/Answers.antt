use Rattle.std.proofs.Common.{length, refl, arith}
use Rattle.std.proofs.lemmas.Result.{IfOk-weaker}
use Rattle.rings.proofs.Edging.{all-under}
use Rattle.rings.proofs.tables.Tables.under.Goals as goal

pub returns : goal.returns
returns c =
    IfOk-weaker c.turned.result _ _
    (λ under h. all-under c.args.self.now.above under c.args.self.now.waiters c.args.actions.now (length c.args.actions.now) _ (omega arith) refl c.requires.groups c.requires.above h)
    c.turned.ensures
