use Rattle.std.proofs.Common.{◌≡◌, take}
use Rattle.picture_text.specs.DataText.{path_text}
use Rattle.picture_text.proofs.ground.write_path.Given as goal

-- those passed are written
abbrev pub invariant-loop-number : goal.invariant-loop-number
invariant-loop-number l = l.scratch.items ≡ path_text (take l.number-index l.path)
