use Rattle.std.proofs.Common.{◌≡◌, ◌≤◌, ◌-◌, [], ℕ, List, Some, length}
use Rattle.std.specs.Prelude.{slice_get}
use Rattle.past.proofs.told.add_empty.Given as goal

abbrev pub invariant-lists : goal.invariant-lists
invariant-lists l = record {
  within : length l.lists.items ≤ l.count;
  empty : (q : ℕ) (places : List ℕ) → slice_get l.lists.items q ≡ Some places → places ≡ [];
}

abbrev pub decreases-lists : goal.decreases-lists
decreases-lists l = l.count - length l.lists.items
