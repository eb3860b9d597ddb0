-- The line that tells why a run ended early.
use Rattle.std.specs.Prelude.{ℕ, List, ◌++◌, Option, Some, None, codes, decimal}
use Rattle.debug_session.specs.FaultNumbers.{fault_number, fault_field}
use Rattle.debug_session.specs.ReplyText.{ending}
use Rattle.debug_session.specs.declared.fault.Fault.{Fault}

-- a refusal by its number, and what stands behind it
abbrev pub refused_text : ℕ → Option ℕ → List ℕ
refused_text number (Some field) = codes "balsadbg: refused " ++ (decimal number ++ (codes " " ++ decimal field))
refused_text number None = codes "balsadbg: refused " ++ decimal number

-- what a fault is told by
abbrev pub fault_text : Fault → List ℕ
fault_text fault = refused_text (fault_number fault) (fault_field fault)

-- the line by which a fault is told
abbrev pub fault_line : Fault → List ℕ
fault_line fault = fault_text fault ++ ending
