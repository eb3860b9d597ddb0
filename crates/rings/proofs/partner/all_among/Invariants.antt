use Rattle.std.proofs.Common.{◌≡◌, ◌++◌, drop, map}
use Rattle.rings.specs.internal.Ends.{partner_from}
use Rattle.rings.proofs.partner.all_among.Given as goal

abbrev pub invariant-loop-action : goal.invariant-loop-action
invariant-loop-action l = l.partners.items ++ map (partner_from l.ends) (drop l.action-index l.actions) ≡ map (partner_from l.ends) l.actions
