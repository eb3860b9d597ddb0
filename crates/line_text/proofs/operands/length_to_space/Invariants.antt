use Rattle.std.proofs.Common.{take}
use Rattle.std.specs.List.{All}
use Rattle.line_text.specs.Fields.{IsNoSpace}
use Rattle.line_text.proofs.operands.length_to_space.Given as goal

-- the bytes passed are no spaces
abbrev pub invariant-loop-i : goal.invariant-loop-i
invariant-loop-i l = All IsNoSpace (take l.i l.text)
