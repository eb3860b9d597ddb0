-- The numbers and fields of the faults of traces.
use Rattle.std.specs.Prelude.{ℕ, Option, Some, None}
use Rattle.trace_file.specs.declared.fault.Fault.{Fault}
use Rattle.trace_file.specs.declared.fault.Fault.TheVariants.{Memory, BadHeader, BadLine, NotAStep, NotCanonical, ReadFailed, WriteFailed}

-- the number by which programs know the fault
abbrev pub fault_number : Fault → ℕ
fault_number Memory = 1
fault_number BadHeader = 31
fault_number (BadLine line) = 32
fault_number (NotAStep line) = 33
fault_number (NotCanonical line) = 34
fault_number ReadFailed = 41
fault_number WriteFailed = 42

-- what stands behind the number
abbrev pub fault_field : Fault → Option ℕ
fault_field (BadLine line) = Some line
fault_field (NotAStep line) = Some line
fault_field (NotCanonical line) = Some line
fault_field _ = None
