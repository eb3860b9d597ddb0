-- What is found at the start of a text: the digits after its first byte are those of an entry.
use Rattle.std.proofs.Common.{subst}
use Rattle.address.specs.internal.Entries.{ReadsNoNumber}
use Rattle.address.proofs.public.Finds.{no-entry-number}
use Rattle.address.proofs.text.read_entry.Goals as goal

pub returns-in_err-number : goal.returns-in_err-number
returns-in_err-number c =
    rw (c.from_residual-in_err-number.ensures, c.in_ok-mark.ensures.cases.0)
    (no-entry-number c.in_ok-mark.mark.now c.in_ok-mark.rest.now c.count_digits.result c.count_digits.ensures
    (subst ReadsNoNumber c.split_at.ensures.front c.in_err-number.ensures))
