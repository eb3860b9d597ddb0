use Rattle.std.proofs.Common.{◌≡◌, length}
use Rattle.shell_desk.specs.Tidied.{no_blanks_before}
use Rattle.shell_desk.proofs.tidy.skip_blanks.Given as goal

abbrev pub invariant-loop-rest : goal.invariant-loop-rest
invariant-loop-rest l = no_blanks_before l.rest ≡ no_blanks_before l.fn.text

abbrev pub decreases-loop-rest : goal.decreases-loop-rest
decreases-loop-rest l = length l.rest
