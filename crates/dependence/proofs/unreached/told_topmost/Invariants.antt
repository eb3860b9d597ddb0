use Rattle.std.proofs.Common.{ℕ, ◌≤◌, ◌↔◌, length, drop}
use Rattle.syntax.specs.Lists.{In}
use Rattle.dependence.specs.internal.Tables.{Falling, Topmost}
use Rattle.dependence.proofs.unreached.told_topmost.Given as goal

abbrev pub invariant-loop-index : goal.invariant-loop-index
invariant-loop-index l = record {
  range : l.index ≤ length l.tickets;
  falling : Falling l.kept.items;
  told : (t : ℕ) → In t l.kept.items ↔ (In t (drop l.index l.tickets) × Topmost l.list.live l.tickets t);
}

abbrev pub decreases-loop-index : goal.decreases-loop-index
decreases-loop-index l = l.index
