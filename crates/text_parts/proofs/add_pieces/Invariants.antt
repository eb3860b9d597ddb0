use Rattle.std.proofs.Common.{◌≡◌, ◌++◌, take}
use Rattle.std.specs.List.{flat_map}
use Rattle.text_parts.specs.Shown.{shown}
use Rattle.text_parts.proofs.add_pieces.Given as goal

-- the pieces passed are written
abbrev pub invariant-loop-piece : goal.invariant-loop-piece
invariant-loop-piece l =
    l.out.items ≡ l.initial.out.items ++ flat_map shown (take l.piece-index l.pieces)
