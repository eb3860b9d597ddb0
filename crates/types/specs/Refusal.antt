-- Which of two faults is answered.
use Rattle.std.specs.Prelude.{ℕ, Option, Some, None, Bool, true, false, ◌||◌, ◌&&◌, nat_lt, nat_eq, if◌then◌else◌}
use Rattle.refusals.specs.declared.types.Fault.{Fault}
use Rattle.refusals.specs.Numbers.{types_number}
use Rattle.refusals.specs.Places.{types_offset}

-- a lesser place, or the same and a lesser number; what has no place goes first
abbrev pub is_earlier : Option ℕ → ℕ → Option ℕ → ℕ → Bool
is_earlier None m b n = true
is_earlier (Some a) m None n = false
is_earlier (Some a) m (Some b) n = nat_lt a b || (nat_eq a b && nat_lt m n)

-- the first fault is answered before the second
unfoldable pub goes_before : Fault → Fault → Bool
goes_before f g = is_earlier (types_offset f) (types_number f) (types_offset g) (types_number g)

-- of two faults the one that is answered
unfoldable pub lesser : Fault → Fault → Fault
lesser f g = if goes_before g f then g else f
