use Rattle.std.proofs.Common.{◌≡◌, ◌+◌, ◌-◌, ◌≤◌, length, drop}
use Rattle.std.specs.List.{prefix_len}
use Rattle.lexer.specs.Spelling.{may_hold}
use Rattle.lexer.proofs.piece.run_length.Given as goal

abbrev pub invariant-loop-length : goal.invariant-loop-length
invariant-loop-length l = (l.length + prefix_len (may_hold l.class) (drop l.length l.rest) ≡ prefix_len (may_hold l.class) l.rest) × (l.length ≤ length l.rest)

abbrev pub decreases-loop-length : goal.decreases-loop-length
decreases-loop-length l = length l.rest - l.length
