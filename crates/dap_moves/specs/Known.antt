-- What is asked of a desk.
use Rattle.std.specs.Prelude.{◌≡◌, ℕ, Some, slice_get}
use Rattle.runs.specs.Steps.{State}
use Rattle.runs.specs.Object.{Reaches}
use Rattle.value.specs.Word.{Word}
use Rattle.locked_execution.specs.AtDesk.{AtDesk, execution}

-- the variable has this value now
abbrev pub HasValue : AtDesk → ℕ → Word → Type 0
HasValue d x v = (T : State) × Reaches (execution d) T × (slice_get T.store x ≡ Some v)
