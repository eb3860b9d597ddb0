-- The hash that a shared prefix keeps beside its bytes.
-- No reader has to believe it: contracts see a prefix as its bytes, which `prefix_bytes` of `Named.antt` gives.
use Rattle.std.specs.Prelude.{◌≡◌, ◌<◌, ◌++◌, Option, Some, None, length}
use Rattle.std.specs.declared.alloc.Global.{Global}
use Rattle.std.specs.declared.sync.Arc.{Arc}
use Rattle.system.specs.internal.Hashing.{hash_of}
use Rattle.system.specs.declared.prefix.Call.{Call}

-- a call has a text, and the hash up to it
abbrev pub IsHashed : Option (Arc Call Global) → Type 0
IsHashed None = Unit {0}
IsHashed (Some call) =
    (0 < length call.value.text.items) × (call.value.hash ≡ hash_of (call.value.around ++ call.value.text.items))
