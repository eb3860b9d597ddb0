-- Devices that count how often they failed.
use Rattle.std.specs.Prelude.{ℕ, ◌+◌, ◌%◌, ◌^◌, ◌≡◌, ◌≢◌, ◌⊎◌, ◌++◌, List, Result, Ok, Err}
use Rattle.devices.specs.declared.counted.Counted.{Counted}
use Rattle.devices.specs.declared.failure.ReadFault.{ReadFault}

-- the device itself
abbrev pub device : {D : Type 0} → Counted D → D
device counted = counted.device

-- how often it failed, modulo 2^64
abbrev pub failures : {D : Type 0} → Counted D → ℕ
failures counted = counted.failures

-- how many more interruptions are borne before one is a failure
abbrev pub patience : {D : Type 0} → Counted D → ℕ
patience counted = counted.patience

-- how many of the bytes that it took last are not sent on yet, 2^64 - 1 at most
abbrev pub unsent : {D : Type 0} → Counted D → ℕ
unsent counted = counted.unsent

-- how many bytes it was last asked to take
abbrev pub wanted : {D : Type 0} → Counted D → ℕ
wanted counted = counted.wanted

-- one failure more
abbrev pub one_more : ℕ → ℕ
one_more n = (n + 1) % 2 ^ 64

-- one failure more exactly where this holds
abbrev pub CountsIf : Type 0 → ℕ → ℕ → Type 0
CountsIf failed old new = (failed × (new ≡ one_more old)) ⊎ ((failed → ⊥) × (new ≡ old))

-- the failures behind what ended so: one more where it ended early
abbrev pub after_failing : {A E : Type 0} → Result A E → ℕ → ℕ
after_failing (Ok done) n = n
after_failing (Err fault) n = one_more n

-- the failures of a reader whose bytes were all read: one more where it failed
abbrev pub after_filling : {A : Type 0} → Result A ReadFault → ℕ → ℕ
after_filling (Err ReadFault.Failed) n = one_more n
after_filling _ n = n

-- what was given is a beginning of the bytes
abbrev pub IsBeginning : List ℕ → List ℕ → Type 0
IsBeginning bytes given = (missing : List ℕ) × (bytes ≡ given ++ missing)

-- a byte that does not end a line
abbrev pub IsNoEnd : ℕ → Type 0
IsNoEnd byte = byte ≢ 10
