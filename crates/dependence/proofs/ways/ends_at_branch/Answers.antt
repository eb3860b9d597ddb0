use Rattle.std.proofs.Common.{sym, subst}
use Rattle.dependence.specs.internal.Seats.{AllOrdered}
use Rattle.dependence.proofs.WayLaws.{none-way, branch-whole, ordered-whole}
use Rattle.dependence.proofs.ways.ends_at_branch.Goals as goal

pub returns-in_default-clause-event : goal.returns-in_default-clause-event
returns-in_default-clause-event c = λ fails. subst AllOrdered (sym (none-way c.args.way.now c.in_default.ensures.cases)) tt

pub returns-in-Branch-clause-branch : goal.returns-in-Branch-clause-branch
returns-in-Branch-clause-branch c = λ holds. branch-whole c.args.way.now _ c.in-Some.last.now _ c.requires c.in-Some.ensures.cases.0 c.in-Branch.is

pub returns-in-Ordered-clause-event : goal.returns-in-Ordered-clause-event
returns-in-Ordered-clause-event c = λ fails. ordered-whole c.args.way.now _ c.in-Some.last.now _ c.requires c.in-Some.ensures.cases.0 c.in-Ordered.is
