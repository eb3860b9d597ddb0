use Rattle.std.proofs.Common.{if◌then◌else◌, suc, length}
use Rattle.lexer.specs.Standing.{rest_of}
use Rattle.typed_source.specs.internal.InParts.{Stands}
use Rattle.typed_source.proofs.typed_from.Given as goal

abbrev pub invariant-loop-is_last : goal.invariant-loop-is_last
invariant-loop-is_last l = Stands l.source l.is_last l.lexing l.typing

abbrev pub decreases-loop-is_last : goal.decreases-loop-is_last
decreases-loop-is_last l = if l.is_last then 0 else suc (length (rest_of l.lexing))
