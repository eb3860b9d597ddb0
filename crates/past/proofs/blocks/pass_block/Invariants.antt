use Rattle.std.proofs.Common.{◌≡◌, ◌≤◌, ◌-◌, length}
use Rattle.past.specs.internal.Blocks.{AreMarked, IsHandedOn, OpenUpTo}
use Rattle.past.proofs.blocks.pass_block.Given as goal

abbrev pub invariant-loop-place : goal.invariant-loop-place
invariant-loop-place l = record {
  low : l.first ≤ l.place;
  high : l.place ≤ l.until;
  over : l.end ≤ l.until;
  most : l.until ≤ length l.whole;
  marks : length l.marks ≡ length l.whole;
  marked : AreMarked l.asked l.whole l.leads l.first l.end l.place l.marks;
  near : length l.near ≡ length l.whole;
  open_to : OpenUpTo l.asked l.whole l.leads l.first l.end l.place l.near;
  handed : IsHandedOn l.asked l.whole l.leads l.first l.end l.place l.until;
}

abbrev pub decreases-loop-place : goal.decreases-loop-place
decreases-loop-place l = length l.whole - l.place
