use Rattle.std.proofs.Common.{◌≡◌, List, refl, sym, subst}
use Rattle.address.specs.declared.Entry.{Entry}
use Rattle.dependence.specs.internal.Seats.{ordered_of}
use Rattle.dependence.proofs.WayLaws.{none-way, ordered-before, ordered-whole, all-ordered}
use Rattle.dependence.proofs.ways.ordered.Goals as goal

pub returns-in_default : goal.returns-in_default
returns-in_default c = subst (λ (w : List Entry). w ≡ ordered_of w) (sym (none-way c.args.way.now c.in_default.ensures.cases)) refl

pub returns-in-Branch : goal.returns-in-Branch
returns-in-Branch c = ordered-before c.args.way.now c.in-Some.before.now c.in-Some.last.now _ c.requires c.in-Some.ensures.cases.0 c.in-Branch.is

pub returns-in-Ordered : goal.returns-in-Ordered
returns-in-Ordered c =
    sym (all-ordered c.args.way.now (ordered-whole c.args.way.now c.in-Some.before.now c.in-Some.last.now _ c.requires c.in-Some.ensures.cases.0 c.in-Ordered.is))
