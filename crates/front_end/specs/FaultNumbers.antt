-- The numbers and fields of the faults of source and stimulus.
use Rattle.std.specs.Prelude.{ℕ, Option, None}
use Rattle.refusals.specs.Numbers.{elaborate_number, sharing_number}
use Rattle.refusals.specs.Places.{elaborate_line, sharing_offset}
use Rattle.typed_source.specs.FaultNumbers.{source_number, source_offset}
use Rattle.front_end.specs.declared.fault.Fault.{Fault}
use Rattle.front_end.specs.declared.fault.Fault.TheVariants.{Memory, Source, Elaborate, Sharing}

-- the number by which programs know the fault
abbrev pub fault_number : Fault → ℕ
fault_number Memory = 1
fault_number (Source fault) = source_number fault
fault_number (Elaborate fault) = elaborate_number fault
fault_number (Sharing fault) = sharing_number fault

-- what stands behind the number
abbrev pub fault_field : Fault → Option ℕ
fault_field Memory = None
fault_field (Source fault) = source_offset fault
fault_field (Elaborate fault) = elaborate_line fault
fault_field (Sharing fault) = sharing_offset fault
