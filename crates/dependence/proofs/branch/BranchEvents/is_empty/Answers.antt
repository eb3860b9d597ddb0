use Rattle.std.proofs.Common.{◌≡◌, ◌<◌, length, subst, arith}
use Rattle.dependence.specs.internal.Seats.{Places}
use Rattle.dependence.proofs.SeatLaws.{some-flat}
use Rattle.dependence.proofs.branch.BranchEvents.is_empty.Goals as goal

pub returns-clause-some : goal.returns-clause-some
returns-clause-some c = λ some.
    let same : c.self.inside.seats.len ≡ length c.self.inside.seats.items = omega (arith, c.self.inside.seats.ok) in
    subst (λ (es : Places). 0 < length es) c.self.view_is
    (some-flat c.self.inside.seats.items c.is_empty.result c.self.inside.seats.len c.self.invariant.branch same c.is_empty.ensures some)
