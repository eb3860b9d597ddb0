-- What follows for a source and a stimulus that make a system.
use Rattle.std.specs.Prelude.{List, ℕ}
use Rattle.elaborate.specs.Laws.{Distinct, names_of_system}
use Rattle.elaborate.specs.Size.{IsSmall, system_size}
use Rattle.system.specs.declared.system.System.{System}
use Rattle.front_end.specs.Accepting.{Makes}

-- the names of its variables and channels are distinct
abbrev pub NamesAreDistinct : Type 0
NamesAreDistinct =
    (source stimulus : List ℕ) (system : System) → Makes source stimulus system → Distinct (names_of_system system)

-- its own nodes and levels are within the limits
abbrev pub SystemIsSmall : Type 0
SystemIsSmall =
    (source stimulus : List ℕ) (system : System) → Makes source stimulus system → IsSmall (system_size system)
