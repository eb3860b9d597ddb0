-- A variable that there is not has no value to keep.
use Rattle.std.proofs.Common.{◌≡◌, ℕ, ◌<◌, ◌≤◌, length, slice_set, sym, arith}
use Rattle.std.proofs.lemmas.List.{set_past}
use Rattle.past.specs.PastText.{Values}
use Rattle.past.specs.declared.held.Held.{Held}

pub past_end : (values : Values) (i : ℕ) (held : Held) → length values ≤ i → values ≡ slice_set values i held
past_end values i held h = sym (set_past values i held h)

pub not_within : (values : Values) (i : ℕ) (held : Held) → (i < length values → ⊥) → values ≡ slice_set values i held
not_within values i held h = past_end values i held (omega (arith, h))
