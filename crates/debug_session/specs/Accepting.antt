-- What it is for a source and a stimulus to be refused by a session. What it is to be accepted, and which pass refuses
-- when, stands in `Accepting.antt` of `front_end`.
use Rattle.std.specs.Prelude.{◌≢◌, ℕ, List}
use Rattle.front_end.specs.Accepting as front_end
use Rattle.front_end.specs.declared.fault.Fault.TheVariants as not_accepted
use Rattle.debug_session.specs.declared.fault.Fault.{Fault}
pub use Rattle.front_end.specs.Accepting.{AcceptedAs}

-- source and stimulus are refused for this reason; want of memory is `Memory`
abbrev pub IsRefused : List ℕ → List ℕ → Fault → Type 0
IsRefused source stimulus Fault.Memory = Unit {0}
IsRefused source stimulus (Fault.NoSystem fault) =
    (fault ≢ not_accepted.Memory) × front_end.IsRefused source stimulus fault
-- nothing else refuses them
IsRefused source stimulus Fault.ReadFailed = ⊥
IsRefused source stimulus (Fault.Trace fault) = ⊥
IsRefused source stimulus (Fault.Refused why) = ⊥
IsRefused source stimulus Fault.WriteFailed = ⊥
IsRefused source stimulus (Fault.BadCommand number) = ⊥
