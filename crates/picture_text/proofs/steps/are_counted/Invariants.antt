use Rattle.std.proofs.Common.{◌≡◌, ◌+◌, length}
use Rattle.picture_text.specs.DataText.{are_counted}
use Rattle.picture_text.proofs.steps.are_counted.Given as goal

-- those passed are counted
abbrev pub invariant-loop-index : goal.invariant-loop-index
invariant-loop-index l = record {
  counted : l.index + length l.ticket-iterator ≡ length l.live.live;
  those_left : are_counted (l.index + 1) l.ticket-iterator ≡ are_counted 1 l.live.live;
}
