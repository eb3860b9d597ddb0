-- Events that have a channel or a variable in common.
use Rattle.std.specs.Prelude.{◌≡◌, ◌⊎◌, ℕ, Bool, true, false, Some}
use Rattle.syntax.specs.Lists.{In}
use Rattle.runs.specs.declared.event.Event.{Event}
use Rattle.runs.specs.Dependence.{OnOneChannel}

-- e writes a variable that is not shared, and f reads or writes it
abbrev pub WritesOwn : (ℕ → Bool) → Event → Event → Type 0
WritesOwn is_shared e f = (x : ℕ) × (is_shared x ≡ false) × (e.written ≡ Some x) × (In x f.read ⊎ (f.written ≡ Some x))

-- both are on one channel, or one writes a variable that is not shared and that the other reads or writes
abbrev pub Related : (ℕ → Bool) → Event → Event → Type 0
Related is_shared e f = OnOneChannel e f ⊎ WritesOwn is_shared e f ⊎ WritesOwn is_shared f e

-- e writes a variable that is shared, and f reads or writes it
abbrev pub WritesShared : (ℕ → Bool) → Event → Event → Type 0
WritesShared is_shared e f =
    (x : ℕ) × (is_shared x ≡ true) × (e.written ≡ Some x) × (In x f.read ⊎ (f.written ≡ Some x))

-- one writes a variable that is shared and that the other reads or writes
abbrev pub OnOneShared : (ℕ → Bool) → Event → Event → Type 0
OnOneShared is_shared e f = WritesShared is_shared e f ⊎ WritesShared is_shared f e
