use Rattle.std.proofs.Common.{ℕ, subst}
use Rattle.syntax.specs.Lists.{In}
use Rattle.dependence.proofs.public.ListPlaces.{in-read}
use Rattle.dependence.proofs.accesses.is_found.Goals as goal

pub returns-then-other-ticket : goal.returns-then-other-ticket
returns-then-other-ticket c = λ yes.
    subst (λ (v : ℕ). In v c.args.found.now) c.if-other-ticket.true (in-read c.args.found.now c.loop-other.other-index c.loop-other-test.true)
