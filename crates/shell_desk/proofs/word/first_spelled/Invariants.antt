use Rattle.std.proofs.Common.{◌≡◌, length}
use Rattle.shell_desk.specs.internal.Spelled as spec
use Rattle.shell_desk.proofs.word.first_spelled.Given as goal

-- what is found in the rest is what is found in all
abbrev pub invariant-loop-rest : goal.invariant-loop-rest
invariant-loop-rest l = spec.first_spelled l.rest l.text ≡ spec.first_spelled l.fn.words l.text

abbrev pub decreases-loop-rest : goal.decreases-loop-rest
decreases-loop-rest l = length l.rest
