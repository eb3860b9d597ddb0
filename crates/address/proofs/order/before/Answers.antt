-- The entries after the common beginning decide.
use Rattle.std.proofs.Common.{sym, ◌∙◌}
use Rattle.address.proofs.First.{before-some, before-first_none, before-second_none}
use Rattle.address.proofs.order.before.Goals as goal

pub returns-in-Some-Some : goal.returns-in-Some-Some
returns-in-Some-Some c =
    rw (← c.entries.ensures, ← c.entries-2.ensures)
    (before-some c.entries.result.now c.entries-2.result.now c.after_common.result.0.now c.after_common.result.1.now
    c.in-Some-Some.i c.in-Some-Some.j c.after_common.ensures
    (sym c.in-Some-Some.is-0 ∙ c.first_number.ensures) (sym c.in-Some-Some.is-1 ∙ c.first_number-2.ensures))

pub returns-in_default : goal.returns-in_default
returns-in_default c =
    rw (← c.entries.ensures, ← c.entries-2.ensures)
    (before-second_none c.entries.result.now c.entries-2.result.now c.after_common.result.0.now c.after_common.result.1.now
    c.after_common.ensures (sym c.in_default.is-1 ∙ c.first_number-2.ensures))

pub returns-in_default-2 : goal.returns-in_default-2
returns-in_default-2 c =
    rw (← c.entries.ensures, ← c.entries-2.ensures)
    (before-first_none c.entries.result.now c.entries-2.result.now c.after_common.result.0.now c.after_common.result.1.now
    c.after_common.ensures (sym c.in_default.is-0 ∙ c.first_number.ensures))
