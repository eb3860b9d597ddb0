use Rattle.std.proofs.Common.{◌≡◌, length}
use Rattle.parser.specs.Input.{is_one_of}
use Rattle.parser.proofs.cursor.is_one_of.Given as goal

abbrev pub invariant-loop-rest : goal.invariant-loop-rest
invariant-loop-rest l = is_one_of l.rest l.kind ≡ is_one_of l.fn.kinds l.kind

abbrev pub decreases-loop-rest : goal.decreases-loop-rest
decreases-loop-rest l = length l.rest
