use Rattle.std.proofs.Common.{arith}
use Rattle.local_actions.proofs.public.Endings.{fresh-has, fresh-has-none, fresh-past-all}
use Rattle.local_actions.proofs.over.command_over.Goals as goal

pub returns-then-number-codes-clause-over : goal.returns-then-number-codes-clause-over
returns-then-number-codes-clause-over c =
    fresh-has c.args.codes.now c.args.number c.index-codes-number.result c.starts_over.result (omega arith) c.index-codes-number.is c.starts_over.ensures

pub returns-then-number-codes-clause-open_ : goal.returns-then-number-codes-clause-open_
returns-then-number-codes-clause-open_ c =
    fresh-has-none c.args.codes.now c.args.number c.index-codes-number.result c.starts_over.result (omega arith) c.index-codes-number.is c.starts_over.ensures

pub returns-clause-open_ : goal.returns-clause-open_
returns-clause-open_ c = λ same. fresh-past-all c.args.codes.now c.args.number (omega arith)
