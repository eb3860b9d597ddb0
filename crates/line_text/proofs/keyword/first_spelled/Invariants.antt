use Rattle.std.proofs.Common.{◌≡◌, length}
use Rattle.line_text.specs.internal.Spelled as spec
use Rattle.line_text.proofs.keyword.first_spelled.Given as goal

-- what is found in the rest is what is found in all
abbrev pub invariant-loop-rest : goal.invariant-loop-rest
invariant-loop-rest l = spec.first_spelled l.rest l.text ≡ spec.first_spelled l.fn.keywords l.text

abbrev pub decreases-loop-rest : goal.decreases-loop-rest
decreases-loop-rest l = length l.rest
