use Rattle.std.proofs.Common.{◌≡◌, ◌≤◌, length}
use Rattle.past.specs.internal.Blocks.{AllOpen}
use Rattle.past.proofs.blocks.find_near.Given as goal

abbrev pub invariant-loop-first : goal.invariant-loop-first
invariant-loop-first l = record {
  within : l.first ≤ length l.whole;
  marks : length l.marks.items ≡ length l.whole;
  near : length l.near ≡ length l.whole;
  listed : AllOpen l.asked l.whole l.leads l.first l.near;
}

abbrev pub decreases-loop-first : goal.decreases-loop-first
decreases-loop-first l = l.first
