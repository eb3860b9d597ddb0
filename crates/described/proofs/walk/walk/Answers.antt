-- The call that is taken off the work stood first in what is still to be told.
use Rattle.std.proofs.Common.{List, ap, sym, ◌∙◌, reverse}
use Rattle.described.specs.declared.walk.Pending.{Pending}
use Rattle.described.specs.internal.Pendings.{leads}
use Rattle.described.proofs.Tellings.{last_first}
use Rattle.described.proofs.walk.walk.Goals as goal

pub loop-preserved : goal.loop-preserved
loop-preserved c =
    let ps = c.args.procedures.now in
    c.in_ok-take_call-in-Some.ensures
    ∙ (ap (λ (ws : List Pending). leads ps ws c.loop.found) (sym (last_first c.pop.new.self c.loop.work c.in-Some.call c.in-Some.ensures))
    ∙ c.loop.invariant)

pub returns-in-None : goal.returns-in-None
returns-in-None c =
    sym (ap (λ (ws : List Pending). leads c.args.procedures.now (reverse ws) c.loop.found) c.in-None.ensures.0) ∙ c.loop.invariant
