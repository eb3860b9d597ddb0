use Rattle.std.proofs.Common.{◌-◌, ◌≤◌, length}
use Rattle.lexer.proofs.CommentLemmas.{IsInside}
use Rattle.lexer.proofs.piece.nested_length.Given as goal

abbrev pub invariant-loop-length : goal.invariant-loop-length
invariant-loop-length l = record { inside : IsInside l.rest l.length l.depth; is_open : 1 ≤ l.depth }

abbrev pub decreases-loop-length : goal.decreases-loop-length
decreases-loop-length l = length l.rest - l.length
