use Rattle.std.proofs.Common.{sym, ap}
use Rattle.dependence.specs.internal.Seats.{number_of}
use Rattle.dependence.proofs.WayLaws.{none-way, number-whole, number-ordered, ordered-whole}
use Rattle.dependence.proofs.ways.end_number.Goals as goal

pub returns-in_default : goal.returns-in_default
returns-in_default c = λ way. sym (ap number_of (none-way c.args.way.now c.in_default.ensures.cases))

pub returns-in-Branch : goal.returns-in-Branch
returns-in-Branch c = λ way. number-whole c.args.way.now _ c.in-Some.last.now _ way c.in-Some.ensures.cases.0 c.in-Branch.is

pub returns-in-Ordered : goal.returns-in-Ordered
returns-in-Ordered c = λ way. sym (number-ordered c.args.way.now (ordered-whole c.args.way.now _ c.in-Some.last.now _ way c.in-Some.ensures.cases.0 c.in-Ordered.is))
