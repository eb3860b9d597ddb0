-- The numbers and fields of the faults that end a session.
use Rattle.std.specs.Prelude.{ℕ, Option, Some, None}
use Rattle.front_end.specs.FaultNumbers as front_end
use Rattle.trace_file.specs.FaultNumbers as trace
use Rattle.runs.specs.Refusals.{refusal_number}
use Rattle.debug_session.specs.declared.fault.Fault.{Fault}
use Rattle.debug_session.specs.declared.fault.Fault.TheVariants.{Memory, NoSystem, Trace}
use Rattle.debug_session.specs.declared.fault.Fault.TheVariants.{ReadFailed, WriteFailed, BadCommand, Refused}

-- the number by which programs know the fault
abbrev pub fault_number : Fault → ℕ
fault_number Memory = 1
fault_number (NoSystem fault) = front_end.fault_number fault
fault_number (Trace fault) = trace.fault_number fault
fault_number ReadFailed = 41
fault_number WriteFailed = 42
fault_number (BadCommand line) = 61
fault_number (Refused why) = refusal_number why

-- what stands behind the number
abbrev pub fault_field : Fault → Option ℕ
fault_field Memory = None
fault_field (NoSystem fault) = front_end.fault_field fault
fault_field (Trace fault) = trace.fault_field fault
fault_field ReadFailed = None
fault_field WriteFailed = None
fault_field (BadCommand line) = Some line
fault_field (Refused why) = None
