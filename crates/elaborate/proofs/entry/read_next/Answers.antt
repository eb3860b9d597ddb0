use Rattle.std.proofs.Common.{subst}
use Rattle.decimal.specs.Reading.{IsNoNumber}
use Rattle.elaborate.proofs.Readings.{no_next-number}
use Rattle.elaborate.proofs.entry.read_next.Goals as goal

pub returns-in_err-number : goal.returns-in_err-number
returns-in_err-number c =
    rw (c.from_residual-in_err-number.ensures, c.in_ok-mark.ensures.cases.0)
    (no_next-number c.in_ok-mark.mark.now c.in_ok-mark.rest.now c.length_before.result c.length_before.ensures
    (subst IsNoNumber c.split_at.ensures.front c.in_err-number.ensures))
