-- Nothing was found against the system.
use Rattle.sharing_check.proofs.Acceptance.{accepts}
use Rattle.sharing_check.proofs.checked.refuse.Goals as goal

pub returns-clause-accepted : goal.returns-clause-accepted
returns-clause-accepted c =
    accepts c.args.system.now (rw c.in_default.is at c.in_ok-offset.ensures) (rw c.in_default-2.is at c.in_ok-offset-2.ensures)
