use Rattle.std.proofs.Common.{◌≡◌, ◌++◌, take}
use Rattle.std.specs.List.{flat_map}
use Rattle.line_text.specs.AnswerText.{live_line}
use Rattle.line_text.proofs.answer.add_live.Given as goal

-- the lines of the events passed are written
abbrev pub invariant-loop-pair : goal.invariant-loop-pair
invariant-loop-pair l =
    l.out.items ≡ l.initial.out.items ++ flat_map (live_line l.system) (take l.pair-index l.pairs)
