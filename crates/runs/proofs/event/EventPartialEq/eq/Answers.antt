use Rattle.std.proofs.Common.{◌≡◌, Bool, Decides, sym, subst}
use Rattle.runs.specs.internal.EventLaws.{same_event-decides}
use Rattle.runs.proofs.event.EventPartialEq.eq.Goals as goal

pub returns-clause-equal : goal.returns-clause-equal
returns-clause-equal c =
    subst (λ (b : Bool). Decides b (c.args.self.now ≡ c.args.other.now)) (sym c.equals.ensures)
    (same_event-decides c.args.self.now c.args.other.now)
