-- The numbers by which programs know why bytes were not read.
use Rattle.std.specs.Prelude.{ℕ}
use Rattle.devices.specs.declared.failure.ReadFault.{ReadFault}
use Rattle.devices.specs.declared.failure.ReadFault.TheVariants.{Memory, Failed}

-- why not all bytes of a reader were had
abbrev pub read_number : ReadFault → ℕ
read_number Memory = 1
read_number Failed = 41

-- a writer failed
abbrev pub write_number : ℕ
write_number = 42
