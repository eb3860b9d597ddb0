-- To keep the ones of the new width is to take the number modulo its power.
use Rattle.std.proofs.Common.{ap, ◌∙◌}
use Rattle.std.proofs.Math.Nat.{mod-eq_of_lt}
use Rattle.value.proofs.Numbers.{and-ones}
use Rattle.value.proofs.resize.Goals as goal

pub returns-clause-value : goal.returns-clause-value
returns-clause-value c =
    rw (← c.v.view_is)
    (ap (λ k. record { bits = k; width = c.args.width }) (and-ones c.v.inside.bits c.ones.result c.args.width c.ones.ensures))

pub returns-clause-kept : goal.returns-clause-kept
returns-clause-kept c =
    rw (← c.v.view_is)
    (λ fits. and-ones c.v.inside.bits c.ones.result c.args.width c.ones.ensures ∙ mod-eq_of_lt fits)
